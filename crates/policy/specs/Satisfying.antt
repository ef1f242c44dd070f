-- Who satisfies what a rule asks of a side, in two halves: all single attributes first, set attributes after. 000, section "ABAC
-- policy language"; 02, request 4, "Satisfaction in the paper's order".
-- Assumes nothing.
use Rattle.std.specs.Prelude.{ℕ, eqb, Bool, true, false, ◌&&◌, ◌||◌, not, List, [], ◌∷◌}
use Rattle.policy.specs.Policy.{Policy, is_set_at, value_at, side_of}
use Rattle.policy.specs.Rules.{Which, by, admits, attrs_of}
use Rattle.sets.specs.Sets.{subset}
use Rattle.sets.specs.Tests.{all, keep}

-- "A user-attribute expression (UAE) e is a function such that, for each user attribute a, e(a) is either a set (interpreted as a
-- disjunction) of possible values of a excluding ⊥ ... or ⊤. The symbol ⊤ indicates that the expression imposes no constraint on the value
-- of the attribute." e(a) is the list of the values that a rule lists for a, and ⊤ the empty list.
abbrev pub Expression : Type 0
Expression = ℕ → List ℕ

-- "e(a) = ⊤"
abbrev pub is_top : List ℕ → Bool
is_top [] = true
is_top (v ∷ vs) = false

module _ (F : Policy) (w : Which) where
  -- "the set Au of user attributes can be partitioned into a set Au,1 of single-valued user attributes ... and a set Au,m of multi-valued
  -- user attributes"; so can the resources'. 255 is one of either side: the users' of the sets (02: "255 being a set attribute"), the
  -- resources' of the singles, since it is "the resource's own number"
  unfoldable pub single_attributes : List ℕ
  single_attributes = keep (λ a. not (is_set_at F w a)) (attrs_of (side_of F w) true)

  unfoldable pub set_attributes : List ℕ
  set_attributes = keep (is_set_at F w) (attrs_of (side_of F w) true)

  module _ (e : Expression) (x : ℕ) where
    -- "∀a ∈ Au,1. e(a) = ⊤ ∨ ∃v ∈ e(a). du(u, a) = v". The tests are handed v, then du(u, a); ⊥, an unknown value, passes none
    -- (Rules, admits)
    unfoldable pub satisfies_singles : Bool
    satisfies_singles = all (λ a. is_top (e a) || admits eqb (e a) (value_at F w a x)) single_attributes

    -- "∀a ∈ Au,m. e(a) = ⊤ ∨ ∃v ∈ e(a). du(u, a) ⊇ v"; of resources "simply using equality, not ⊇"
    unfoldable pub satisfies_sets : Bool
    satisfies_sets = all (λ a. is_top (e a) || admits (by w subset eqb) (e a) (value_at F w a x)) set_attributes

    -- "A user u satisfies a user-attribute expression e, denoted u |= e, iff" the one "and" the other
    unfoldable pub satisfies : Bool
    satisfies = satisfies_singles && satisfies_sets
