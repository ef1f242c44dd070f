-- Assumes nothing.
use borrow.Author.Rules.{rules}
use lib.ListN.{length}
use mathlib.Core.Path.{refl}
use Rattle.write_theory.proofs.SectionLaws.{written_as, room_as, level-line}
use Rattle.write_rule.proofs.put_level.Goals as goal

pub put_two-requires : goal.put_two-requires
put_two-requires c =
    let a = c.args in
    let l = level-line a.scratch.now a.head c.level_at-level.ensures in
    (room_as _ _ (length a.out.now) l.0 c.requires.1, search rules, l.1)

pub returns : goal.returns
returns c =
    let a = c.args in
    written_as _ _ _ a.out.now _ (level-line a.scratch.now a.head c.level_at-level.ensures).0 (refl, c.put_two.ensures)
