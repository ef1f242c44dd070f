use borrow.Author.Rules.{rules}
use mathlib.Core.Path.{sym, ◌∙◌}
use native.Mathlib.Omega.{arith}
use Rattle.mine_corners.specs.Pairing.{words_in}
use Rattle.sets.specs.LoopLaws.{turn-within}
use Rattle.sets.specs.MaskLaws.{fill_none, fill_with, fill_out, fill_end}
use Rattle.mine_rows.specs.KeptPlaces.{conjunct_at}
use Rattle.grant_links.specs.LinkedLaws.{atoms-cut}
use Rattle.mine_present.specs.PlaceLaws.{present_joined}
use Rattle.mine_present.proofs.present.Goals as goal
use Rattle.mine_present.proofs.present.Goals.{else-conjunct_at, then-conjunct_at}

pub loop-i-init : goal.loop-i-init
loop-i-init start = (search rules, sym (fill_none (conjunct_at start.args.knowing.now start.args.attributes.now (words_in start.args.g) start.args.level)))

pub loop-i-preserved : goal.loop-i-preserved
loop-i-preserved c =
    let a = c.args in
    let turn = c.loop-i in
    let there = conjunct_at a.knowing.now a.attributes.now (words_in a.g) a.level in (
      turn-within turn.i 14 c.loop-i-test.true,
      elim c.if-conjunct_at.branch [ then-conjunct_at w ↦ fill_with turn.i turn.m _ there (omega arith) turn.invariant.1 (sym c.conjunct_at.ensures ∙ w.if-conjunct_at.true) (w.m-is ∙ w.with-m.ensures) | else-conjunct_at w ↦ fill_out turn.i turn.m _ there turn.invariant.1 (sym c.conjunct_at.ensures ∙ w.if-conjunct_at.false) w.m-is ],
    )

pub returns : goal.returns
returns c =
    let a = c.args in
    present_joined a.knowing.now a.attributes.now (words_in a.g) a.level c.loop-i.m _ _
    (fill_end c.loop-i.i 14 c.loop-i.m (conjunct_at a.knowing.now a.attributes.now (words_in a.g) a.level) c.loop-i.invariant.1 (omega arith))
    (atoms-cut a.g.atoms c.below.result c.meet.result c.below.ensures c.meet.ensures)
    c.union.ensures
