-- Assumes nothing.
use mathlib.Core.Path.{◌∙◌}
use native.Mathlib.Omega.{arith}
use Rattle.mine_groups.specs.Scratch.{all_parts}
use Rattle.write_answer.proofs.AssemblyLaws.{file-so, measured-so, answered, measured-long}
use Rattle.write_answer.proofs.MineLaws.{short}
use Rattle.write_answer.proofs.write_groups.Goals as goal

pub overflow_add-bytes : goal.overflow_add-bytes
overflow_add-bytes c =
    omega (arith, (measured-long _ _ _ _ _ _ _ _ _ c.requires.2 c.measure-m.result c.measure-m.ensures).1)

pub returns-then-lacks_room : goal.returns-then-lacks_room
returns-then-lacks_room c F cuts Z W e =
    let a = c.args in
    let r = (measured-so F cuts Z a.merging.kept a.distinct.now a.having.now a.inside.now a.kinds.now a.permissions.now a.sizes a.attributes.now a.merging.starts a.scratch.now c.requires.2 W c.measure-m.result c.measure-m.ensures).0 in
    (λ file n h q ok. short file cuts n a.out.now h F q ok (omega (arith, c.if-lacks_room.true, r)), r)

pub write_shaped-requires : goal.write_shaped-requires
write_shaped-requires c =
    let e = (measured-long _ _ _ _ _ _ _ _ _ c.requires.2 c.measure-m.result c.measure-m.ensures).0 in
    (c.requires.0, c.requires.1, c.requires.2, c.roles_of_groups.ensures, omega (arith, c.if-lacks_room.false, e))

pub returns : goal.returns
returns c F cuts Z W e =
    let a = c.args in
    let t = measured-so F cuts Z a.merging.kept a.distinct.now a.having.now a.inside.now a.kinds.now a.permissions.now a.sizes a.attributes.now a.merging.starts a.scratch.now c.requires.2 W c.measure-m.result c.measure-m.ensures in
    let r = t.0 in
    (λ file n h q ok. answered file cuts n a.out.now h F q ok c.measure-m.result (all_parts a.merging.starts) a.merging.made t.1 e (omega (arith, c.if-lacks_room.false, r)) _ _ (file-so F cuts Z a.merging.kept a.distinct.now a.having.now a.inside.now a.kinds.now a.permissions.now a.sizes a.attributes.now a.merging.starts a.scratch.now c.requires.2 W) c.write_shaped.ensures, r)
