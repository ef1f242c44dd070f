use Prim.Native.Nat.{ℕ}
use borrow.Author.Rules.{rules}
use mathlib.Core.Path.{sym, ap, ◌∙◌}
use native.Mathlib.Omega.{arith}
use Rattle.sets.specs.declared.Ascending.{Ascending}
use Rattle.sets.specs.Sets.{narrowing, bit, mask_of}
use Rattle.grant_links.specs.LinkedLaws.{atoms-cut, narrow-turn, narrow-nothing, narrow-done, linked-begin, cut_low, less-low}
use Rattle.grant_links.proofs.linked.Invariants.{word}
use Rattle.grant_links.proofs.linked.Goals as goal

pub loop-i-init : goal.loop-i-init
loop-i-init c =
    let a = c.args in
    let e = atoms-cut a.atoms c.below.result c.meet.result c.below.ensures c.meet.ensures in
    let r = ap (λ (s : Ascending). s.rest) c.into_iter-i-iterator.ensures.into_iter_gives ∙ c.members-i-items.ensures ∙ e in
    (search rules, search rules, cut_low a.atoms _ r, linked-begin a.links.now a.atoms a.user a.among _ r)

pub returns-then-m-eq0 : goal.returns-then-m-eq0
returns-then-m-eq0 c =
    let a = c.args in
    narrow-nothing 36 c.loop-i.i-iterator.rest (word a.links.now a.user) c.loop-i.m c.if-m-eq0.true ∙ c.loop-i.invariant.3

pub loop-i-preserved : goal.loop-i-preserved
loop-i-preserved c =
    let turn = c.loop-i in
    let a = c.args in
    let t = c.in-Some.ensures.steps in (
      search rules,
      search rules,
      λ i k. less-low turn.i-iterator.rest turn.invariant.1 c.in-Some.i turn.invariant.2 i (sym (ap (λ (m : ℕ). bit m i) t.others) ∙ k),
      ap (λ (m : ℕ). mask_of 64 (narrowing c.meet-m.result (bit m) (word a.links.now a.user) 36)) t.others
          ∙ narrow-turn 36 turn.i-iterator.rest turn.invariant.1 (word a.links.now a.user) c.in-Some.i turn.m c.meet-m.result (turn.invariant.2 _ t.member) t.member c.meet-m.ensures
          ∙ turn.invariant.3,
    )

pub returns : goal.returns
returns c =
    let end = c.loop-i in
    let a = c.args in
    sym (narrow-done 36 end.i-iterator.rest (word a.links.now a.user) end.m end.invariant.0 c.in-None.ensures.steps.0) ∙ end.invariant.3
