-- What the cost of rules is made of, 000's four sums, and what they come to by weights.
-- Assumes nothing.
use Rattle.std.specs.Prelude.{ℕ, ◌+◌, ◌*◌, ◌≤◌, List}
use Rattle.policy.specs.Cost.{side_cost, atom_cost}
use Rattle.policy.specs.Rules.{Setting, Rule, user, resource}
use Rattle.policy.specs.declared.Weights.{Weights}
use Rattle.sets.specs.Sets.{size}
use Rattle.sets.specs.Tests.{sum}
use Rattle.write_cost.specs.declared.Sums.{Sums}

-- the sums of a rule
unfoldable pub rule_sums : Setting → Rule → Sums
rule_sums P ρ = record { users = side_cost P user ρ.conds; resources = side_cost P resource ρ.conds; operations = size ρ.ops; atoms = sum (atom_cost P) ρ.conds }

-- of no rule, of two together, and of all members of a list
abbrev pub no_sums : Sums
no_sums = record { users = 0; resources = 0; operations = 0; atoms = 0 }

abbrev pub added : Sums → Sums → Sums
added a b = record { users = a.users + b.users; resources = a.resources + b.resources; operations = a.operations + b.operations; atoms = a.atoms + b.atoms }

unfoldable pub all_sums : {A : Type 0} → (A → Sums) → List A → Sums
all_sums f l = record { users = sum (λ x. (f x).users) l; resources = sum (λ x. (f x).resources) l; operations = sum (λ x. (f x).operations) l; atoms = sum (λ x. (f x).atoms) l }

-- the cost by weights
unfoldable pub weighed : Weights → Sums → ℕ
weighed weights s = weights.users * s.users + weights.resources * s.resources + weights.operations * s.operations + weights.atoms * s.atoms

-- none of the sums is above a number
abbrev pub AtMost : ℕ → Sums → Type 0
AtMost n s = (s.users ≤ n) × (s.resources ≤ n) × (s.operations ≤ n) × (s.atoms ≤ n)
