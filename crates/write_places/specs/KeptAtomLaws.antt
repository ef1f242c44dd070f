-- The atoms among the places that are kept.
-- Assumes nothing.
use Rattle.std.specs.Prelude.{ℕ, ◌+◌, ◌/◌, ◌%◌, ◌^◌, eqb, ltb, Bool, true, false, ◌&&◌, ◌≡◌, refl}
use Rattle.std.proofs.Common.{pow-add, sym, ap, ap₂, ◌∙◌, arith}
use Rattle.std.proofs.Math.Nat.{div-div-eq-div-mul}
use Rattle.mine_theory.specs.Lines.RuleLines.{atom_set}
use Rattle.sets.specs.MaskLaws.{mask_wide, mask_same}
use Rattle.sets.specs.Sets.{bit, mask_of}
use Rattle.sets.specs.SetLaws.{bit_mask}

-- a shifted set
bit_shift : (n a j : ℕ) → bit (a / 2 ^ n) j ≡ bit a (n + j)
unfolding bit
bit_shift n a j = ap (λ (x : ℕ). eqb (x % 2) 1) (div-div-eq-div-mul a (2 ^ n) (2 ^ j) ∙ ap (λ (x : ℕ). a / x) (sym (pow-add 2 n j)))

-- `kept >> 14`, of which the lowest 36 count
pub atoms-shifted : (kept low r : ℕ) → low ≡ mask_of 64 (λ k. ltb k 36) → r ≡ mask_of 64 (λ k. bit (kept / 2 ^ 14) k && bit low k) → r ≡ atom_set kept
atoms-shifted kept low r e q =
    q ∙ mask_same 64 (λ k. bit (kept / 2 ^ 14) k && bit low k) (λ k. ltb k 36 && bit kept (14 + k))
    (λ k l. ap₂ ◌&&◌ (bit_shift 14 kept k) (ap (λ (m : ℕ). bit m k) e ∙ bit_mask 64 (λ k. ltb k 36) k l) ∙ turned (bit kept (14 + k)) (ltb k 36))
    ∙ sym (mask_wide 36 64 (λ j. bit kept (14 + j)) (omega arith))
  where
    turned : (a b : Bool) → (a && b) ≡ (b && a)
    turned true true = refl
    turned true false = refl
    turned false true = refl
    turned false false = refl
