use borrow.Author.Count.{below_none}
use borrow.Author.Rules.{rules}
use native.Mathlib.Omega.{arith}
use Rattle.mine_corners.specs.Pairing.{words_in}
use Rattle.sets.specs.LoopLaws.{store_next}
use Rattle.mine_rows.specs.KeptPlaces.{met_at}
use Rattle.mine_present.specs.PlaceLaws.{met-unique}
use Rattle.mine_present.proofs.met_places.Goals as goal

pub loop-i-init : goal.loop-i-init
loop-i-init c = (search rules, search rules, below_none _)

pub loop-i-preserved : goal.loop-i-preserved
loop-i-preserved c =
    let a = c.args in
    let turn = c.loop-i in (
      search rules,
      search rules,
      store_next turn.out turn.i c.met_at.result (met_at a.matches.now (words_in a.g) a.places) turn.invariant.2 c.met_at.ensures (omega arith),
    )

pub returns : goal.returns
returns c =
    let a = c.args in
    met-unique a.matches.now (words_in a.g) a.places c.loop-i.out c.loop-i.invariant.1 (λ j l. c.loop-i.invariant.2 j (omega arith))
