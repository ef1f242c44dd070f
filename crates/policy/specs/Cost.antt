-- What a rule costs. 01, section "Covering, merging, striking"; 02, request 5, "Weighted cost"; 000, section 4.
-- Assumes nothing.
use Rattle.std.specs.Prelude.{ℕ, ◌+◌, ◌*◌, length, Bool, true, false, cond, List}
use Rattle.policy.specs.Rules.{Which, by, Setting, Cond, Rule, user, resource, conjunct, atom}
use Rattle.policy.specs.declared.Weights.{Weights}
use Rattle.sets.specs.Sets.{size}
use Rattle.sets.specs.Tests.{keep, sum}

-- a conjunct of this side
abbrev pub is_of : Which → Cond → Bool
is_of v (conjunct w a vs) = by v (by w true false) (by w false true)
is_of v (atom a b) = false

module _ (P : Setting) where
  -- ---- "Cost (000, all weights 1): values in single conjuncts, elements over all sets in set conjuncts, operations, atoms."

  -- the part of a condition in each sum
  unfoldable pub single_cost : Cond → ℕ
  single_cost (conjunct w a vs) = cond ((P.side w).is_set a) 0 (length vs)
  single_cost (atom a b) = 0

  unfoldable pub set_cost : Cond → ℕ
  set_cost (conjunct w a vs) = cond ((P.side w).is_set a) (sum size vs) 0
  set_cost (atom a b) = 0

  unfoldable pub atom_cost : Cond → ℕ
  atom_cost (conjunct w a vs) = 0
  atom_cost (atom a b) = 1

  -- 000: "WSC(e) = Σ |e(a)| + Σ |s|", the first sum over the single attributes a of e, the second over its set attributes a and the sets s in
  -- e(a); here e is a rule's conjuncts of a side
  unfoldable pub side_cost : Which → List Cond → ℕ
  side_cost w cs = sum single_cost (keep (is_of w) cs) + sum set_cost (keep (is_of w) cs)

  -- 000: "WSC(⟨eu, er, O, c⟩) = w1 WSC(eu) + w2 WSC(er) + w3 |O| + w4 |c|"; 02: "The cost takes the four weights of 000: w1 for user conjuncts,
  -- w2 for resource conjuncts, w3 for operations, w4 for atoms"
  unfoldable pub rule_cost : Weights → Rule → ℕ
  rule_cost weights ρ =
      weights.users * side_cost user ρ.conds
      + weights.resources * side_cost resource ρ.conds
      + weights.operations * size ρ.ops
      + weights.atoms * sum atom_cost ρ.conds

-- 01: "all weights 1"; 02: "four ones"
abbrev pub four_ones : Weights
four_ones = record { users = 1; resources = 1; operations = 1; atoms = 1 }
