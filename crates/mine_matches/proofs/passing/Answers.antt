use Prim.Native.Nat.{ℕ, ◌+◌, ◌*◌}
use lib.Dec.{ltb}
use lib.ListN.{get_or}
use mathlib.Core.Bool.{Bool}
use mathlib.Core.List.{List}
use mathlib.Core.Path.{sym, ◌∙◌}
use native.Mathlib.Omega.{arith}
use Rattle.mine_matches.specs.MatchTableLaws.{passing_so}
use Rattle.sets.specs.LoopLaws.{turn-within, narrow-none, narrow_in, narrow-out, narrow-end}
use Rattle.sets.specs.MaskLaws.{mask_lt}
use Rattle.sets.specs.Sets.{subset, mask_of}
use borrow.Author.Rules.{rules}
use Rattle.mine_matches.proofs.passing.Goals as goal
use Rattle.mine_matches.proofs.passing.Goals.{else-within, then-within}

abbrev everybody : ℕ → ℕ
everybody count = mask_of 64 (λ x. ltb x count)

abbrev asked : List ℕ → ℕ → ℕ → ℕ → Bool
asked known side members a = subset members (get_or known (7 * side + a) 0)

abbrev meeting : List ℕ → ℕ → ℕ → ℕ
meeting met side a = get_or met (6 * side + a) 0

pub loop-a-init : goal.loop-a-init
loop-a-init c =
    let g = c.args in
    (search rules, c.below-m.ensures ∙ narrow-none (everybody g.count) (asked g.knowing.now g.side g.members) (meeting g.met.now g.side) (mask_lt 64 (λ x. ltb x g.count)))

pub loop-a-preserved : goal.loop-a-preserved
loop-a-preserved c =
    let g = c.args in
    let turn = c.loop-a in
    let asks = asked g.knowing.now g.side g.members in
    let meet = meeting g.met.now g.side in (
      turn-within turn.a g.attributes c.loop-a-test.true,
      elim c.if-within.branch [ then-within w ↦ narrow_in (everybody g.count) asks meet turn.a turn.m _ turn.invariant.1 (sym c.within.ensures ∙ w.if-within.true) (w.m-is ∙ w.meet-m.ensures) | else-within w ↦ narrow-out (everybody g.count) asks meet turn.a turn.m _ turn.invariant.1 (sym c.within.ensures ∙ w.if-within.false) w.m-is ],
    )

pub returns : goal.returns
returns c matches h =
    let end = c.loop-a in
    let g = c.args in
    narrow-end (everybody g.count) (asked g.knowing.now g.side g.members) (meeting g.met.now g.side) end.a g.attributes end.m end.invariant.1 (omega arith)
    ∙ passing_so matches g.met.now g.knowing.now g.attributes g.side g.members g.count c.requires.0 c.requires.2 h
