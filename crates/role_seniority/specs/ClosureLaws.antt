-- The laws of seniors and holders as tables.
-- Assumes nothing.
use Rattle.std.specs.Prelude.{ℕ, zero, suc, ◌+◌, ◌^◌, ◌≤◌, ◌<◌, length, get_or, Bool, true, false, List, ◌≡◌}
use Rattle.std.proofs.Math.Bool.{◌&&◌, ◌||◌, or-false}
use Rattle.std.proofs.Math.Path.{sym, ap₂}
use Rattle.std.proofs.Common.{ap, ◌∙◌, add-one, arith}
use Rattle.policy.specs.Policy.{Policy, reach, senior, circular, held}
use Rattle.role_seniority.specs.Closure.{among, closed, passed_by, passed, held_by, held_table}
use Rattle.sets.specs.LoopLaws.{table-long, table_at, table-unique, table_same}
use Rattle.sets.specs.MaskLaws.{mask_unique, mask_same, mask_bits}
use Rattle.sets.specs.Sets.{bit, mask_of}
use Rattle.sets.specs.SetLaws.{bit_mask}
use Rattle.sets.specs.Tests.{any, up_to}
use Rattle.sets.specs.TestLaws.{up_to-out, any_ext}

pub closed-long : (l : List ℕ) (n : ℕ) → length (closed l n) ≡ 32
unfolding closed
closed-long l n = table-long 32 (λ i. mask_of 64 (λ j. reach (among l) n i j))

-- a senior stands in the table where it is reached
pub closed-bit : (l : List ℕ) (n i j : ℕ) → i < 32 → j < 64 → among (closed l n) i j ≡ reach (among l) n i j
unfolding closed
closed-bit l n i j p q = ap (λ (x : ℕ). bit x j) (table_at 32 (λ i. mask_of 64 (λ j. reach (among l) n i j)) i p) ∙ bit_mask 64 (λ j. reach (among l) n i j) j q

-- with no role between them: the table as it is
pub closed_none : (l : List ℕ) → length l ≡ 32 → ((i : ℕ) → get_or l i 0 < 2 ^ 64) → l ≡ closed l 0
unfolding closed
closed_none l e h = table-unique 32 l (λ i. mask_of 64 (λ j. among l i j)) e (λ i k. mask_bits 64 (get_or l i 0) (h i))

-- with one role more
row : (l : List ℕ) (n : ℕ) → n < 32 → (i : ℕ) → i < 32 → passed_by (closed l n) n i ≡ mask_of 64 (λ j. reach (among l) (suc n) i j)
unfolding passed_by
row l n h i p =
    mask_same 64 (λ j. among (closed l n) i j || (among (closed l n) i n && among (closed l n) n j)) (λ j. reach (among l) (suc n) i j)
    (λ j q. ap₂ ◌||◌ (closed-bit l n i j p q) (ap₂ ◌&&◌ (closed-bit l n i n p (omega arith)) (closed-bit l n n j h q)))

next : (l : List ℕ) (n : ℕ) → n < 32 → passed (closed l n) n ≡ closed l (suc n)
unfolding passed closed
next l n h = table_same 32 (passed_by (closed l n) n) (λ i. mask_of 64 (λ j. reach (among l) (suc n) i j)) (row l n h)

pub closed-more : (l : List ℕ) (n : ℕ) → n < 32 → passed (closed l n) n ≡ closed l (n + 1)
closed-more l n h = next l n h ∙ ap (closed l) (sym (add-one n))

-- a round of a loop, and the loop's end
pub closed-turn : (l t t' : List ℕ) (n : ℕ) → n < 32 → t ≡ closed l n → t' ≡ passed t n → t' ≡ closed l (n + 1)
closed-turn l t t' n h e q = q ∙ ap (λ (x : List ℕ). passed x n) e ∙ closed-more l n h

pub closed-end : (l t : List ℕ) (i n : ℕ) → t ≡ closed l i → i ≡ n → t ≡ closed l n
closed-end l t i n e q = e ∙ ap (closed l) q

-- ---- one round, word by word

pub passed-unique : (l t : List ℕ) (n : ℕ) → length t ≡ 32 → ((i : ℕ) → i < 32 → get_or t i 0 ≡ passed_by l n i) → t ≡ passed l n
unfolding passed
passed-unique l t n e h = table-unique 32 t (passed_by l n) e h

-- what a round stores
pub pass_word : (l : List ℕ) (n i x v : ℕ) → x ≡ get_or l i 0 → v ≡ mask_of 64 (λ j. bit x j || (bit x n && bit (get_or l n 0) j)) → v ≡ passed_by l n i
unfolding passed_by
pass_word l n i x v e q = q ∙ ap (λ (y : ℕ). mask_of 64 (λ j. bit y j || (bit y n && bit (get_or l n 0) j))) e

-- role n is among a role's seniors: its own come to them; it is not: they stay
pub through_in : (x y n v : ℕ) → bit x n ≡ true → v ≡ mask_of 64 (λ k. bit x k || bit y k) → v ≡ mask_of 64 (λ j. bit x j || (bit x n && bit y j))
through_in x y n v h q =
    q ∙ mask_same 64 (λ k. bit x k || bit y k) (λ j. bit x j || (bit x n && bit y j)) (λ j p. ap (λ (b : Bool). bit x j || b) (sym (ap (λ (b : Bool). b && bit y j) h)))

pub through_out : (x y n : ℕ) → x < 2 ^ 64 → bit x n ≡ false → x ≡ mask_of 64 (λ j. bit x j || (bit x n && bit y j))
through_out x y n s h =
    mask_unique 64 x (λ j. bit x j || (bit x n && bit y j)) s (λ j p. sym (ap (λ (b : Bool). bit x j || (b && bit y j)) h ∙ or-false (bit x j)))

-- ---- holders

pub held_table-unique : (a s t : List ℕ) (n : ℕ) → length t ≡ 32 → ((k : ℕ) → k < 32 → get_or t k 0 ≡ held_by a (get_or a k 0) (get_or s k 0) n) → t ≡ held_table a s n
unfolding held_table
held_table-unique a s t n e h = table-unique 32 t (λ k. held_by a (get_or a k 0) (get_or s k 0) n) e h

-- a user stands in the table who is assigned to the role or to a senior
pub held-bit : (a s : List ℕ) (n k u : ℕ) → k < 32 → u < 64 → among (held_table a s n) k u ≡ (among a k u || any (λ j. among s k j && among a j u) (up_to n))
unfolding held_table held_by
held-bit a s n k u p q =
    ap (λ (x : ℕ). bit x u) (table_at 32 (λ k. held_by a (get_or a k 0) (get_or s k 0) n) k p)
    ∙ bit_mask 64 (λ u. among a k u || any (λ j. among s k j && among a j u) (up_to n)) u q

-- ---- a policy's seniors and holders stand in the tables

pub reach-same : (line line' : ℕ → ℕ → Bool) → ((i j : ℕ) → line i j ≡ line' i j) → (n i j : ℕ) → reach line n i j ≡ reach line' n i j
reach-same line line' h zero i j = h i j
reach-same line line' h (suc n) i j =
    ap₂ ◌||◌ (reach-same line line' h n i j) (ap₂ ◌&&◌ (reach-same line line' h n i n) (reach-same line line' h n n j))

module _ (F : Policy) (few : F.roles ≤ 32) (l : List ℕ) (lines : (i j : ℕ) → F.line i j ≡ among l i j) where
  pub senior-bit : (i j : ℕ) → i < 32 → j < 64 → among (closed l F.roles) i j ≡ senior F i j
  unfolding senior
  senior-bit i j p q = closed-bit l F.roles i j p q ∙ sym (reach-same F.line (among l) lines F.roles i j)

  pub circular-table : any (λ k. bit (get_or (closed l F.roles) k 0) k) (up_to F.roles) ≡ circular F
  unfolding circular
  circular-table =
      any_ext (λ k. among (closed l F.roles) k k) (λ k. senior F k k) (up_to F.roles)
      (λ k m. let h = up_to-out F.roles m in senior-bit k k (omega arith) (omega arith))

  module _ (a : List ℕ) (assigned : (k u : ℕ) → F.assigned k u ≡ among a k u) where
    pub holder-bit : (k u : ℕ) → k < 32 → u < 64 → among (held_table a (closed l F.roles) F.roles) k u ≡ held F k u
    unfolding held
    holder-bit k u p q =
        held-bit a (closed l F.roles) F.roles k u p q
        ∙ ap₂ ◌||◌ (sym (assigned k u))
        (any_ext (λ j. among (closed l F.roles) k j && among a j u) (λ s. senior F k s && F.assigned s u) (up_to F.roles)
        (λ j m. let h = up_to-out F.roles m in ap₂ ◌&&◌ (senior-bit k j p (omega arith)) (sym (assigned j u))))
