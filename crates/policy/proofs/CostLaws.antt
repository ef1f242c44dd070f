-- The cost with all weights 1 is 01's sum.
-- Assumes nothing.
use Rattle.std.specs.Prelude.{ℕ, ◌+◌, ◌*◌, List, [], ◌∷◌, ◌≡◌, refl}
use Rattle.std.proofs.Common.{arith}
use Rattle.policy.specs.Cost.{is_of, single_cost, set_cost, atom_cost, side_cost, rule_cost, four_ones}
use Rattle.policy.specs.Rules.{Setting, Cond, Rule, user, resource, conjunct, atom}
use Rattle.sets.specs.Sets.{size}
use Rattle.sets.specs.Tests.{keep, sum}

-- what is added up over the conjuncts of each side, where atoms add nothing
both-sides : (f : Cond → ℕ) → ((a b : ℕ) → f (atom a b) ≡ 0) → (cs : List Cond) → sum f (keep (is_of user) cs) + sum f (keep (is_of resource) cs) ≡ sum f cs
both-sides f z [] = refl
both-sides f z (conjunct user a vs ∷ cs) = let r = both-sides f z cs in omega (arith, r)
both-sides f z (conjunct resource a vs ∷ cs) = let r = both-sides f z cs in omega (arith, r)
both-sides f z (atom a b ∷ cs) = let r = both-sides f z cs in let e = z a b in omega (arith, r, e)

-- "Cost (000, all weights 1): values in single conjuncts, elements over all sets in set conjuncts, operations, atoms."
pub ones-cost : (P : Setting) (ρ : Rule) → rule_cost P four_ones ρ ≡ sum (single_cost P) ρ.conds + sum (set_cost P) ρ.conds + size ρ.ops + sum (atom_cost P) ρ.conds
unfolding rule_cost side_cost single_cost set_cost
ones-cost P ρ =
    let e = both-sides (single_cost P) (λ a b. refl) ρ.conds in
    let f = both-sides (set_cost P) (λ a b. refl) ρ.conds in
    omega (arith, e, f)
