use Prim.Native.Nat.{ℕ}
use borrow.Author.Rules.{rules}
use mathlib.Core.Path.{refl, sym, ap, ◌∙◌}
use native.Mathlib.Omega.{arith}
use Rattle.mine_words.specs.AtomLaws.{with_low, keeping, keep-begin, keep_in, keep_out, keep-done}
use Rattle.mine_words.specs.PartWords.{true_of_user}
use Rattle.sets.specs.declared.Ascending.{Ascending}
use Rattle.sets.specs.MaskLaws.{bit-low}
use Rattle.sets.specs.Sets.{mask_of}
use Rattle.mine_words.proofs.true_of_user.Invariants.{joined}
use Rattle.mine_words.proofs.true_of_user.Goals as goal

pub loop-i-init : goal.loop-i-init
unfolding true_of_user
loop-i-init start =
    let a = start.args in
    let r = ap (λ (s : Ascending). s.rest) start.into_iter-i-iterator.ensures.into_iter_gives ∙ start.members-i-items.ensures in
    (search rules, omega (arith, r, start.requires.0), ap (λ (m : ℕ). mask_of 64 (keeping (joined a.links.now a.user a.resources) 0 m)) r ∙ keep-begin (joined a.links.now a.user a.resources) a.atoms start.requires.0)

pub bounds-links-i : goal.bounds-links-i
bounds-links-i c = let low = bit-low 36 c.loop-i.i-iterator.rest c.in-Some.i c.loop-i.invariant.1 c.in-Some.ensures.steps.member in omega arith

pub loop-i-preserved-then-within : goal.loop-i-preserved-then-within
loop-i-preserved-then-within c =
    let turn = c.loop-i in
    let a = c.args in
    let t = c.in-Some.ensures.steps in
    let f = t.fewer in (
      with_low turn.m c.in-Some.i _ c.with-m.ensures,
      omega arith,
      ap (λ (m : ℕ). mask_of 64 (keeping (joined a.links.now a.user a.resources) c.with-m.result m)) t.others
          ∙ keep_in (joined a.links.now a.user a.resources) turn.m turn.i-iterator.rest c.in-Some.i (omega arith) t.member _ (sym c.within.ensures ∙ c.if-within.true) c.with-m.ensures
          ∙ turn.invariant.2,
    )

pub loop-i-preserved : goal.loop-i-preserved
loop-i-preserved c =
    let turn = c.loop-i in
    let a = c.args in
    let t = c.in-Some.ensures.steps in
    let f = t.fewer in (
      turn.invariant.0,
      omega arith,
      ap (λ (m : ℕ). mask_of 64 (keeping (joined a.links.now a.user a.resources) turn.m m)) t.others
          ∙ keep_out (joined a.links.now a.user a.resources) turn.m turn.i-iterator.rest c.in-Some.i (omega arith) t.member _ (sym c.within.ensures ∙ c.if-within.false) refl
          ∙ turn.invariant.2,
    )

pub returns : goal.returns
returns c =
    let end = c.loop-i in
    let a = c.args in
    sym (keep-done (joined a.links.now a.user a.resources) end.m end.i-iterator.rest end.invariant.0 c.in-None.ensures.steps.0) ∙ end.invariant.2
