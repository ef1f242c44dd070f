use borrow.Author.Rules.{rules}
use lib.ListN.{length, take}
use lib.Seq.{length-sets}
use mathlib.Core.Path.{ap, ◌∙◌}
use native.Mathlib.Omega.{arith}
use Rattle.load_bytes.specs.StoreLaws.{stored_next, stored-all}
use Rattle.load_bytes.proofs.put.Goals as goal

pub loop-i-preserved : goal.loop-i-preserved
loop-i-preserved c =
    let l = c.loop-i in
    let a = c.args in
    (search rules, search rules, c.store.ensures ∙ stored_next a.bytes.now a.out.now a.at l.i l.out (omega arith) l.invariant.2)

pub shape_of-out : goal.shape_of-out
shape_of-out c =
    let a = c.args in
    ap length c.loop-i.invariant.2 ∙ length-sets a.out.now a.at (take c.loop-i.i a.bytes.now)

pub returns : goal.returns
returns c =
    let l = c.loop-i in
    let a = c.args in
    (stored-all a.bytes.now a.out.now a.at l.i l.out (omega arith) l.invariant.2, search rules)
