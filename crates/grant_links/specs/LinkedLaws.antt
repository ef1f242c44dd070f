-- The laws of the resources that atoms leave a user, and of a loop over the atoms of a word, least first: each turn narrows a set of
-- resources and takes the least atom out.
-- Assumes nothing.
use Rattle.std.specs.Prelude.{ℕ, ◌+◌, ◌*◌, ◌^◌, ◌<◌, eqb, ltb, get_or, Bool, true, false, ◌&&◌, List, ◌≡◌, refl}
use Rattle.std.proofs.Common.{eqb-true, ltb-true, sym, ap, ◌∙◌, subst, arith}
use Rattle.std.proofs.Math.Bool.{and-true}
use Rattle.grant_links.specs.Linked.{linked_with, row_of}
use Rattle.sets.specs.MemberLaws.{bit-less}
use Rattle.sets.specs.Sets.{narrowing, bit, mask_of, less_one}
use Rattle.sets.specs.MaskLaws.{mask_lt, bit-mask_of, mask_unique, mask_same, mask_none, cut_law}
use Rattle.sets.specs.SetLaws.{bit-none, bit_mask}
use Rattle.sets.specs.Tests.{Is, imp, all, up_to}
use Rattle.sets.specs.TestLaws.{and_in, and_l, and_r, never, test, same, imp_in, imp-out, all-out, all_in, up_to_in, up_to-out, not_in}

-- the atoms of a word, `meet(m, below(36))`
pub atoms-cut : (m b s : ℕ) → b ≡ mask_of 64 (λ k. ltb k 36) → s ≡ mask_of 64 (λ k. bit m k && bit b k) → s ≡ mask_of 36 (bit m)
atoms-cut m b s e q = cut_law 36 m b s (omega arith) e q

-- ---- a loop over the members of a set that narrows another, least member first

-- a turn, `a = meet(a, g)`
pub narrow-turn : (n m : ℕ) → m < 2 ^ 64 → (g : ℕ → ℕ) (y a a' : ℕ) → y < n → Is (bit m y) → a' ≡ mask_of 64 (λ k. bit a k && bit (g y) k)
    → mask_of 64 (narrowing a' (bit (less_one m y)) g n) ≡ mask_of 64 (narrowing a (bit m) g n)
narrow-turn n m h g y a a' l b q =
    mask_same 64 (narrowing a' (bit (less_one m y)) g n) (narrowing a (bit m) g n) λ u lu. same (narrowing a' (bit (less_one m y)) g n u) (narrowing a (bit m) g n u) (there u lu) (back u lu)
  where
    narrowed : (u : ℕ) → u < 64 → bit a' u ≡ (bit a u && bit (g y) u)
    narrowed u lu = ap (λ (x : ℕ). bit x u) q ∙ bit_mask 64 (λ k. bit a k && bit (g y) k) u lu

    there : (u : ℕ) → u < 64 → Is (narrowing a' (bit (less_one m y)) g n u) → Is (narrowing a (bit m) g n u)
    there u lu p =
        let t = sym (narrowed u lu) ∙ and_l (bit a' u) _ p in
        and_in (and_l (bit a u) (bit (g y) u) t) (all_in (λ j. imp (bit m j) (bit (g j) u)) (up_to n) λ j i. imp_in (bit m j) (bit (g j) u) λ k. test (eqb j y)
        (λ e. ap (λ (x : ℕ). bit (g x) u) (eqb-true j y e) ∙ and_r (bit a u) (bit (g y) u) t)
        (λ e. imp-out (bit (g j) u) (all-out (λ j. imp (bit (less_one m y) j) (bit (g j) u)) (and_r (bit a' u) _ p) i) (bit-less m h y j ∙ and_in k (not_in (eqb j y) e))))

    back : (u : ℕ) → u < 64 → Is (narrowing a (bit m) g n u) → Is (narrowing a' (bit (less_one m y)) g n u)
    back u lu p =
        let t = and_r (bit a u) _ p in
        and_in (narrowed u lu ∙ and_in (and_l (bit a u) _ p) (imp-out (bit (g y) u) (all-out (λ j. imp (bit m j) (bit (g j) u)) t (up_to_in l)) b))
        (all_in (λ j. imp (bit (less_one m y) j) (bit (g j) u)) (up_to n) λ j i. imp_in (bit (less_one m y) j) (bit (g j) u) λ k.
        imp-out (bit (g j) u) (all-out (λ j. imp (bit m j) (bit (g j) u)) t i) (and_l (bit m j) _ (sym (bit-less m h y j) ∙ k)))

-- with no member left it has done
pub narrow-done : (n m : ℕ) (g : ℕ → ℕ) (a : ℕ) → a < 2 ^ 64 → m ≡ 0 → mask_of 64 (narrowing a (bit m) g n) ≡ a
narrow-done n m g a h e = sym (mask_unique 64 a (narrowing a (bit m) g n) h λ u l.
    sym (ap (λ (b : Bool). bit a u && b) (all_in (λ j. imp (bit m j) (bit (g j) u)) (up_to n) λ j i. imp_in (bit m j) (bit (g j) u) λ k. never k (ap (λ (x : ℕ). bit x j) e ∙ bit-none j)) ∙ and-true (bit a u)))

-- an empty set stays empty
pub narrow-nothing : (n m : ℕ) (g : ℕ → ℕ) (a : ℕ) → a ≡ 0 → 0 ≡ mask_of 64 (narrowing a (bit m) g n)
narrow-nothing n m g a e = sym (mask_none 64 (narrowing a (bit m) g n) λ u l. ap (λ (b : Bool). b && all (λ j. imp (bit m j) (bit (g j) u)) (up_to n)) (ap (λ (x : ℕ). bit x u) e ∙ bit-none u))

-- it begins with the atoms of a word
pub linked-begin : (links : List ℕ) (atoms u among m : ℕ) → m ≡ mask_of 36 (bit atoms) → mask_of 64 (narrowing among (bit m) (λ i. get_or links (64 * i + u) 0) 36) ≡ linked_with links atoms u among
unfolding linked_with
linked-begin links atoms u among m e =
    mask_same 64 (narrowing among (bit m) (λ i. get_or links (64 * i + u) 0) 36) (narrowing among (bit atoms) (λ i. get_or links (64 * i + u) 0) 36)
    (λ r l. ap (λ (b : Bool). bit among r && b) (same (all (λ j. imp (bit m j) (word j r)) (up_to 36)) (all (λ j. imp (bit atoms j) (word j r)) (up_to 36))
    (λ h. all_in (λ j. imp (bit atoms j) (word j r)) (up_to 36) λ j i. subst (λ (b : Bool). Is (imp b (word j r))) (shown j (up_to-out 36 i)) (all-out (λ j. imp (bit m j) (word j r)) h i))
    (λ h. all_in (λ j. imp (bit m j) (word j r)) (up_to 36) λ j i. subst (λ (b : Bool). Is (imp b (word j r))) (sym (shown j (up_to-out 36 i))) (all-out (λ j. imp (bit atoms j) (word j r)) h i))))
  where
    word : ℕ → ℕ → Bool
    word j r = bit (get_or links (64 * j + u) 0) r

    shown : (j : ℕ) → j < 36 → bit m j ≡ bit atoms j
    shown j l = ap (λ (x : ℕ). bit x j) e ∙ bit_mask 36 (bit atoms) j l

-- every member of the atoms is below 36
pub cut_low : (m s : ℕ) → s ≡ mask_of 36 (bit m) → (i : ℕ) → Is (bit s i) → i < 36
cut_low m s e i h = ltb-true i 36 (and_l (ltb i 36) _ (sym (ap (λ (x : ℕ). bit x i) e ∙ bit-mask_of 36 (bit m) i) ∙ h))

-- and stays so when one is taken out
pub less-low : (m : ℕ) → m < 2 ^ 64 → (y : ℕ) → ((i : ℕ) → Is (bit m i) → i < 36) → (i : ℕ) → Is (bit (less_one m y) i) → i < 36
less-low m h y l i k = l i (and_l (bit m i) _ (sym (bit-less m h y i) ∙ k))

-- ---- what is left is a set, and a row is what is left to one of the users

pub linked-low : (links : List ℕ) (atoms u among : ℕ) → linked_with links atoms u among < 2 ^ 64
unfolding linked_with
linked-low links atoms u among = mask_lt 64 (narrowing among (bit atoms) (λ i. get_or links (64 * i + u) 0) 36)

pub row-met : (links : List ℕ) (atoms users resources u m : ℕ) → bit users u ≡ true → m ≡ linked_with links atoms u resources → m ≡ row_of links atoms users resources u
unfolding row_of
row-met links atoms users resources u m e h = rw e h

pub row_unmet : (links : List ℕ) (atoms users resources u : ℕ) → bit users u ≡ false → 0 ≡ row_of links atoms users resources u
unfolding row_of
row_unmet links atoms users resources u e = rw e refl
