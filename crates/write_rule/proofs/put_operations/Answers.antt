-- Assumes nothing.
use borrow.Author.Rules.{rules}
use lib.ListN.{length}
use mathlib.Core.Path.{refl}
use Rattle.write_theory.proofs.SectionLaws.{written_as, room_as, operations-line}
use Rattle.write_rule.proofs.put_operations.Goals as goal

pub put_three-requires : goal.put_three-requires
put_three-requires c =
    let a = c.args in
    (room_as _ _ (length a.out.now) (operations-line a.scratch.now a.head c.operations_at-ops.ensures) c.requires.1, search rules, search rules, search rules)

pub returns : goal.returns
returns c =
    let a = c.args in
    written_as _ _ _ a.out.now _ (operations-line a.scratch.now a.head c.operations_at-ops.ensures) (refl, c.put_three.ensures)
