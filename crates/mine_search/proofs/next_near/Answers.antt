use borrow.Author.Rules.{rules}
use mathlib.Core.Logic.{inl}
use mathlib.Core.Path.{refl}
use native.Mathlib.Omega.{arith}
use Rattle.mine_search.specs.PartnerSearchLaws.{asked-below, near_found, near_on}
use Rattle.mine_corners.specs.Pairing.{words_in}
use Rattle.mine_search.proofs.next_near.Goals as goal

pub loop-word-init : goal.loop-word-init
loop-word-init c k a b = absurd (omega arith)

pub returns-then-k-end : goal.returns-then-k-end
returns-then-k-end c =
    let a = c.args in
    near_found a.heads.now a.scratch.now (words_in a.g) a.from c.loop-word.word c.higher.ensures c.below-passed.ensures c.without.ensures c.loop-word.invariant c.near_within-k.ensures c.if-k-end.true

pub loop-word-preserved : goal.loop-word-preserved
loop-word-preserved c =
    let a = c.args in
    near_on a.heads.now a.scratch.now (words_in a.g) a.from c.loop-word.word c.higher.ensures c.below-passed.ensures c.without.ensures c.loop-word.invariant c.requires.1 c.near_within-k.ensures c.if-k-end.false

pub returns : goal.returns
returns c = inl (refl, λ k a b. c.loop-word.invariant k a (omega (arith, c.loop-word-test.false)))

pub near_within-k-requires : goal.near_within-k-requires
near_within-k-requires c =
    let a = c.args in (
      search rules,
      λ k h b. asked-below a.heads.now a.scratch.now (words_in a.g) a.from c.loop-word.word c.higher.ensures c.below-passed.ensures c.without.ensures c.loop-word.invariant c.requires.1 k _ c.requires.0 h b,
    )

pub overflow_sub-higher : goal.overflow_sub-higher
overflow_sub-higher c = omega (arith, c.higher.ensures)
