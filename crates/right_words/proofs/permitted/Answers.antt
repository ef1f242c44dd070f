use Prim.Native.Nat.{ℕ, ◌<◌}
use borrow.Author.Rules.{rules}
use mathlib.Core.Path.{◌≡◌, sym, ap, ◌∙◌}
use native.Mathlib.Omega.{arith}
use Rattle.right_words.specs.Rights.{permitted_by}
use Rattle.sets.specs.MaskLaws.{bit-low}
use Rattle.sets.specs.MemberLaws.{join-begin, join-turn, join-done}
use Rattle.sets.specs.Sets.{joining, bit, mask_of}
use Rattle.sets.specs.declared.Ascending.{Ascending}
use Rattle.right_words.proofs.permitted.Invariants.{own}
use Rattle.right_words.proofs.permitted.Goals as goal
use Rattle.right_words.proofs.permitted.Goals.{In-Some}

-- a role that comes is one of the 32, and the operation one of the 16
within : (c : In-Some) → (c.in-Some.k < 32) × (c.args.operation < 16)
within c = (bit-low 32 c.loop-k.k-iterator.rest c.in-Some.k c.loop-k.invariant.1 c.in-Some.ensures.steps.member, c.requires.1)

pub loop-k-init : goal.loop-k-init
unfolding permitted_by
loop-k-init c =
    let a = c.args in
    let r : c.into_iter-k-iterator.result.rest ≡ a.held = ap (λ (s : Ascending). s.rest) c.into_iter-k-iterator.ensures.into_iter_gives ∙ c.members-k-items.ensures in
    let few = c.requires.0 in (
      search rules,
      omega (arith, r, few),
      ap (λ (m : ℕ). mask_of 64 (joining 0 (bit m) (own a.permissions.now a.operation) 64)) r ∙ join-begin a.held (own a.permissions.now a.operation),
    )

pub bounds-permissions-operation : goal.bounds-permissions-operation
bounds-permissions-operation c = let w = within (goal.at.bounds-permissions-operation c).In-Some in omega (arith, w.0, w.1)

pub loop-k-preserved : goal.loop-k-preserved
loop-k-preserved c =
    let turn = c.loop-k in
    let a = c.args in
    let t = c.in-Some.ensures.steps in
    let low = turn.invariant.1 in
    let fewer = t.fewer in (
      search rules,
      omega (arith, fewer, low),
      ap (λ (m : ℕ). mask_of 64 (joining c.union-all.result (bit m) (own a.permissions.now a.operation) 64)) t.others
          ∙ join-turn turn.k-iterator.rest (omega arith) (own a.permissions.now a.operation) c.in-Some.k turn.all c.union-all.result t.below t.member c.union-all.ensures
          ∙ turn.invariant.2,
    )

pub returns : goal.returns
returns c =
    let end = c.loop-k in
    let a = c.args in
    sym (join-done (own a.permissions.now a.operation) end.k-iterator.rest end.all end.invariant.0 c.in-None.ensures.steps.0) ∙ end.invariant.2
