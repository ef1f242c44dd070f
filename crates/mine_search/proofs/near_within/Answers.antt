use Prim.Native.Nat.{ℕ, ◌%◌}
use borrow.Author.Rules.{rules}
use mathlib.Core.Bool.{◌&&◌}
use mathlib.Core.Path.{refl, sym, ap, ◌∙◌}
use native.Mathlib.Omega.{arith}
use Rattle.sets.specs.declared.Ascending.{Ascending}
use Rattle.sets.specs.Sets.{bit}
use Rattle.sets.specs.MemberLaws.{bit-less}
use Rattle.sets.specs.TestLaws.{and_l}
use Rattle.mine_search.specs.PartnerSearch.{near_at}
use Rattle.mine_search.specs.PartnerSearchLaws.{within_none, within-found, within-turn}
use Rattle.mine_corners.specs.Pairing.{words_in, reaches}
use Rattle.mine_theory.specs.Words.Words.{Words}
use Rattle.mine_search.proofs.near_within.Goals as goal

pub loop-i-init : goal.loop-i-init
loop-i-init c =
    let r = ap (λ (s : Ascending). s.rest) c.into_iter-i-iterator.ensures.into_iter_gives ∙ c.members-i-items.ensures in
    (search rules, (λ k a b. ap (λ (m : ℕ). bit m (k % 64) && near_at c.args.scratch.now (words_in c.args.g) k) r), λ k b. sym (ap (λ (m : ℕ). bit m k) r) ∙ b)

pub group_at-requires : goal.group_at-requires
group_at-requires c = let t = c.in-Some.ensures.steps in c.requires.1 _ t.below (c.loop-i.invariant.2 _ t.member)

pub returns-then-near : goal.returns-then-near
returns-then-near c =
    let turn = c.loop-i in
    let a = c.args in
    let t = c.in-Some.ensures.steps in
    within-found a.scratch.now (words_in a.g) a.word a.marked turn.i-iterator.rest turn.invariant.0 turn.invariant.1 c.in-Some.i t.least (omega (arith, t.fewer)) refl (c.near.ensures ∙ ap (λ (X : Words). reaches (words_in a.g) X && reaches X (words_in a.g)) c.group_at.ensures) c.if-near.true

pub loop-i-preserved : goal.loop-i-preserved
loop-i-preserved c =
    let turn = c.loop-i in
    let a = c.args in
    let t = c.in-Some.ensures.steps in (
      search rules,
      within-turn a.scratch.now (words_in a.g) a.word a.marked turn.i-iterator.rest turn.invariant.0 turn.invariant.1 c.in-Some.i t.least (omega (arith, t.fewer)) refl (c.near.ensures ∙ ap (λ (X : Words). reaches (words_in a.g) X && reaches X (words_in a.g)) c.group_at.ensures) c.if-near.false t.others,
      λ k b. turn.invariant.2 k (and_l (bit turn.i-iterator.rest k) _ (sym (bit-less turn.i-iterator.rest turn.invariant.0 c.in-Some.i k) ∙ ap (λ (m : ℕ). bit m k) (sym t.others) ∙ b)),
    )

pub returns : goal.returns
returns c =
    let end = c.loop-i in
    let a = c.args in
    within_none a.scratch.now (words_in a.g) a.word a.marked end.i-iterator.rest end.invariant.0 end.invariant.1 c.in-None.ensures.steps.0
