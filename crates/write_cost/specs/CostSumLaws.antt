-- The cost of rules is what their sums come to by weights.
-- Assumes nothing.
use Rattle.std.specs.Prelude.{ℕ, ◌+◌, ◌*◌, ◌≤◌, ◌<◌, Bool, true, false, cond, List, [], ◌∷◌, ◌≡◌, refl}
use Rattle.std.proofs.Common.{mul-add, mul-le-mul_left, arith}
use Rattle.policy.specs.Cost.{rule_cost}
use Rattle.policy.specs.Rules.{Setting, Rule}
use Rattle.policy.specs.declared.Weights.{Weights}
use Rattle.sets.specs.ListLaws.{sum-most, sum_more, from-length}
use Rattle.sets.specs.Tests.{up_to, sum}
use Rattle.write_cost.specs.CostSums.{rule_sums, no_sums, added, all_sums, weighed, AtMost}
use Rattle.write_cost.specs.declared.Sums.{Sums}

-- sums are known by the four of them
pub sums_same : {a b c d p q r s : ℕ} → a ≡ p → b ≡ q → c ≡ r → d ≡ s
    → ◌≡◌ {A = Sums} (record { users = a; resources = b; operations = c; atoms = d }) (record { users = p; resources = q; operations = r; atoms = s })
sums_same e f g h = rw (e, f, g, h) refl

-- ---- all members of a list

-- one more
pub all_more : (f : ℕ → Sums) (n : ℕ) → all_sums f (up_to (n + 1)) ≡ added (all_sums f (up_to n)) (f n)
unfolding all_sums
all_more f n = sums_same (sum_more (λ x. (f x).users) n) (sum_more (λ x. (f x).resources) n) (sum_more (λ x. (f x).operations) n) (sum_more (λ x. (f x).atoms) n)

-- where those of each are small, those of some are
pub all_most : (m : ℕ) (f : ℕ → Sums) → ((j : ℕ) → AtMost m (f j)) → (n : ℕ) → AtMost (m * n) (all_sums f (up_to n))
unfolding all_sums
all_most m f h n = (most (λ x. (f x).users) (λ j. (h j).0), most (λ x. (f x).resources) (λ j. (h j).1), most (λ x. (f x).operations) (λ j. (h j).2), most (λ x. (f x).atoms) (λ j. (h j).3))
  where
    most : (g : ℕ → ℕ) → ((j : ℕ) → g j ≤ m) → sum g (up_to n) ≤ m * n
    most g l = rw (from-length 0 n) at (sum-most m g (up_to n) (λ j i. l j))

-- ---- by weights

-- the cost of a rule
pub cost-weighed : (P : Setting) (weights : Weights) (ρ : Rule) → rule_cost P weights ρ ≡ weighed weights (rule_sums P ρ)
unfolding rule_cost weighed rule_sums
cost-weighed P weights ρ = refl

-- a rule that is there, or none
pub weighed_if : (weights : Weights) (b : Bool) (s : Sums) → weighed weights (cond b s no_sums) ≡ cond b (weighed weights s) 0
unfolding weighed
weighed_if weights true s = refl
weighed_if weights false s = omega arith

-- the sums of all cost what all cost
pub weighed-all : {A : Type 0} (weights : Weights) (f : A → Sums) (l : List A) → weighed weights (all_sums f l) ≡ sum (λ x. weighed weights (f x)) l
unfolding weighed all_sums
weighed-all weights f [] = omega arith
weighed-all weights f (x ∷ l) =
    one_more_lem weights.users weights.resources weights.operations weights.atoms (f x).users (f x).resources (f x).operations (f x).atoms _ _ _ _ (weighed-all weights f l)
  where
    one_more_lem : (a b c d p q r s x y z w : ℕ) {t : ℕ} → a * x + b * y + c * z + d * w ≡ t → a * (p + x) + b * (q + y) + c * (r + z) + d * (s + w) ≡ a * p + b * q + c * r + d * s + t
    one_more_lem a b c d p q r s x y z w e = let h = mul-add a p x in let i = mul-add b q y in let j = mul-add c r z in let k = mul-add d s w in omega (arith, e, h, i, j, k)

-- a weight times a sum has 48 bits
pub product_low : (a b : ℕ) → a < 65536 → b < 4294967296 → a * b < 281474976710656
product_low a b h k = let l : b ≤ 4294967295 = omega arith in let p = mul-le-mul_left a l in omega (arith, p)
