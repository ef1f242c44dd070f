-- The covering rule of a set of triples, and the set's level. 01, section "Covering, merging, striking".
-- Assumes nothing.
use Rattle.std.specs.Prelude.{ℕ, ltb, Bool, List, [], ◌∷◌, ◌++◌}
use Rattle.std.proofs.Math.Option.{Option, none, some}
use Rattle.policy.specs.Rules.{Side, Which, Setting, Cond, Rule, Block, attrs_of, own_at, holds, grants, same_block, user, resource, conjunct, atom}
use Rattle.sets.specs.Lowest.{lowest}
use Rattle.sets.specs.Sets.{mask_of}
use Rattle.sets.specs.Sorted.{sort}
use Rattle.sets.specs.Tests.{imp, all, any, keep, each, only, up_to, is_some}

abbrev pub known : Option ℕ → List ℕ
known none = []
known (some x) = x ∷ []

module _ (S : Side) where
  -- everybody of a set knows an attribute
  unfoldable pub all_know : (ℕ → Bool) → ℕ → Bool
  all_know W a = all (λ w. is_some (S.value a w)) (keep W (up_to S.count))

  -- "the conjunct of their values", ascending and each once
  unfoldable pub values_of : (ℕ → Bool) → ℕ → List ℕ
  values_of W a = sort ltb (each (λ w. known (S.value a w)) (keep W (up_to S.count)))

module _ (P : Setting) where
  -- an operation stands in a set of triples; a user and a resource share a triple of it; somebody stands in it
  unfoldable pub op_in : Block → ℕ → Bool
  op_in B o = any (λ u. any (λ r. B u r o) (up_to (P.side resource).count)) (up_to (P.side user).count)

  unfoldable pub pair_in : Block → ℕ → ℕ → Bool
  pair_in B u r = any (λ o. B u r o) (up_to P.slots)

  unfoldable pub stands_in : Block → Which → ℕ → Bool
  stands_in B user u = any (λ r. pair_in B u r) (up_to (P.side resource).count)
  stands_in B resource r = any (λ u. pair_in B u r) (up_to (P.side user).count)

  -- a condition is true of every user and resource that share a triple of B
  unfoldable pub everywhere : Block → Cond → Bool
  everywhere B c = all (λ u. all (λ r. imp (pair_in B u r) (holds P c u r)) (up_to (P.side resource).count)) (up_to (P.side user).count)

  -- "for each attribute of that level that all users (resources) in B know, the conjunct of their values"
  unfoldable pub conjuncts : Block → ℕ → Which → List Cond
  conjuncts B l w = each (λ a. only (all_know (P.side w) (stands_in B w) a) (conjunct w a (values_of (P.side w) (stands_in B w) a))) (attrs_of (P.side w) (own_at w l))

  -- "each atom true of every user and resource that share a triple of B"
  unfoldable pub atom_conds : Block → List Cond
  atom_conds B = each (λ a. each (λ b. only (everywhere B (atom a b)) (atom a b)) (up_to (P.side resource).attrs)) (up_to (P.side user).attrs)

  -- the covering rule of B, which is not empty, at a level, with "the operations in B"
  unfoldable pub cover : Block → ℕ → Rule
  cover B l = record { ops = mask_of P.slots (op_in B); conds = conjuncts B l user ++ conjuncts B l resource ++ atom_conds B }

  -- "B fits a level if its covering rule there grants exactly B."
  unfoldable pub fits : Block → ℕ → Bool
  fits B l = same_block P (grants P (cover B l)) B

  -- "Its level is the lowest it fits."
  unfoldable pub level_of : Block → ℕ
  level_of B = lowest (fits B)
