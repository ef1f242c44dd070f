use Prim.Native.Nat.{ℕ, ◌+◌, ◌≤◌}
use borrow.Author.Rules.{rules}
use lib.Dec.{eqb}
use lib.ListN.{length, get_or, length-set}
use mathlib.Core.Bool.{◌||◌}
use mathlib.Core.List.{List}
use mathlib.Core.Path.{◌≡◌, refl, sym, ap, ◌∙◌, subst}
use native.Mathlib.Omega.{arith}
use Rattle.sets.specs.Sets.{bit, mask_of}
use Rattle.mine_parts.specs.Layout.{most_parts}
use Rattle.write_roles.specs.GroupRoles.{roles_before}
use Rattle.write_roles.specs.GroupRoleLaws.{Marking, none-marked, mark_more, mark_past}
use Rattle.write_roles.proofs.mark_roles.Goals as goal
use Rattle.write_roles.proofs.mark_roles.Goals.{else-head-parts, then-head-parts}

pub loop-i-init : goal.loop-i-init
loop-i-init c =
    (search rules, c.told-out, λ h b. c.requires.1 h b ∙ none-marked c.args.scratch.now h)

pub head_at-head-requires : goal.head_at-head-requires
head_at-head-requires c = omega (arith, c.loop-i-test.true, c.requires.0)

pub role_at-requires : goal.role_at-requires
role_at-requires c = omega (arith, c.loop-i-test.true, c.requires.0)

pub loop-i-preserved : goal.loop-i-preserved
loop-i-preserved c =
    let turn = c.loop-i in
    let a = c.args in
    let room : a.parts ≤ most_parts = omega (arith, c.requires.0) in
    let next : (length c.if-head-parts.out ≡ most_parts) × Marking a.scratch.now a.parts c.if-head-parts.out (turn.i + 1) =
    elim c.if-head-parts.branch [
      | then-head-parts w ↦ subst (λ (o : List ℕ). (length o ≡ most_parts) × Marking a.scratch.now a.parts o (turn.i + 1)) (sym w.out-is) (
        length-set turn.out c.head_at-head.result w.with.result ∙ turn.invariant.1,
        mark_more a.scratch.now a.parts turn.out turn.i _ c.head_at-head.ensures turn.invariant.2 w.with.result w.if-head-parts.true (omega (arith, turn.invariant.1, room)) (w.with.ensures ∙ ap (λ (r : ℕ). mask_of 64 (λ k. bit (get_or turn.out c.head_at-head.result 0) k || eqb k r)) w.role_at.ensures),
      )
      | else-head-parts w ↦ subst (λ (o : List ℕ). (length o ≡ most_parts) × Marking a.scratch.now a.parts o (turn.i + 1)) (sym w.out-is)
          (turn.invariant.1, mark_past a.scratch.now a.parts turn.out turn.i _ c.head_at-head.ensures turn.invariant.2 w.if-head-parts.false)
    ] in
    (search rules, next.0, next.1)

pub returns : goal.returns
returns c =
    let l = c.loop-i in
    let a = c.args in
    let last : l.i ≡ a.parts = omega (arith, l.invariant.0, c.loop-i-test.false) in
    λ h b. l.invariant.2 h b ∙ ap (λ (n : ℕ). roles_before a.scratch.now n h) last
