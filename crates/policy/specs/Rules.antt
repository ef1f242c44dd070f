-- Rules: what they are made of, what they grant, and their levels. 01, section "Rules".
-- Assumes nothing.
use Rattle.std.specs.Prelude.{ℕ, ◌<◌, eqb, ltb, length, Bool, true, false, cond, ◌&&◌, ◌||◌, List, ◌++◌, ◌≡◌}
use Rattle.std.proofs.Math.Option.{Option, none, some}
use Rattle.sets.specs.Lowest.{lowest}
use Rattle.sets.specs.Sets.{bit, subset}
use Rattle.sets.specs.Tests.{Is, iff, all, any, only, up_to, elem, without, is_some}

-- "Attribute 255 is, for users, the set of roles they hold and, for resources, the resource's own number."
abbrev pub own : ℕ
own = 255

-- One side of a policy, the users or the resources. Both are read by the same definitions.
pub record Side : Type 0 where
  -- who there is: the numbers below this one
  pub count : ℕ
  -- the attributes declared: the numbers below this one; 255 comes on top
  pub attrs : ℕ
  -- an attribute is a set, not single
  pub is_set : ℕ → Bool
  -- "Attributes now carry a domain number."
  pub domain : ℕ → ℕ
  -- the value of an attribute for somebody: "An attribute never given for somebody is unknown."
  pub value : ℕ → ℕ → Option ℕ
  -- attribute, listed value, somebody's value: the listed one is met (see Policy for the two sides)
  pub below : ℕ → ℕ → ℕ → Bool

pub data Which : Type 0 where
  user : Which
  resource : Which

-- the user's or the resource's of two
abbrev pub by {ℓ} : {A : Type ℓ} → Which → A → A → A
by user x y = x
by resource x y = y

-- What rules are about: the two sides, and how many operations there are.
pub record Setting : Type 0 where
  pub side : Which → Side
  pub slots : ℕ

-- "An atom is one of three forms over one user and one resource attribute: set contains set, set contains single
-- (a value above 63 never is contained), single equals single."
pub data Form : Type 0 where
  set_contains_set : Form
  set_contains_single : Form
  single_equals_single : Form

-- the form that two attributes' kinds give; a single user attribute and a set resource attribute give none
abbrev pub form_of : Bool → Bool → Option Form
form_of true true = some set_contains_set
form_of true false = some set_contains_single
form_of false true = none
form_of false false = some single_equals_single

-- the form is true of a user's and a resource's value
abbrev pub form_holds : Form → ℕ → ℕ → Bool
form_holds set_contains_set x y = subset y x
form_holds set_contains_single x y = ltb y 64 && bit x y
form_holds single_equals_single x y = eqb x y

abbrev pub linked : Option Form → ℕ → ℕ → Bool
linked none x y = false
linked (some f) x y = form_holds f x y

-- "A rule has user conjuncts, resource conjuncts, an operation set and atoms. A conjunct is a non-empty set of values
-- of one attribute; an absent one demands nothing." Conjuncts and atoms together are a rule's conditions.
pub data Cond : Type 0 where
  conjunct : Which → ℕ → List ℕ → Cond
  atom : ℕ → ℕ → Cond

pub record Rule : Type 0 where
  -- the operation set: bit n for operation n
  pub ops : ℕ
  pub conds : List Cond

-- a set of triples: user, resource, operation. 01's block of a part is one (Roles, blockOf)
abbrev pub Block : Type 0
Block = ℕ → ℕ → ℕ → Bool

-- "An unknown value satisfies no conjunct and no atom."
abbrev pub admits : (ℕ → ℕ → Bool) → List ℕ → Option ℕ → Bool
admits le vs none = false
admits le vs (some x) = any (λ v. le v x) vs

abbrev pub both : (ℕ → ℕ → Bool) → Option ℕ → Option ℕ → Bool
both f none y = false
both f (some x) none = false
both f (some x) (some y) = f x y

module _ (S : Side) where
  -- somebody meets a conjunct: their value meets a listed one
  unfoldable pub meets : ℕ → List ℕ → ℕ → Bool
  meets a vs w = admits (S.below a) vs (S.value a w)

  -- the attributes that a rule may use, with the 255 or without
  unfoldable pub attrs_of : Bool → List ℕ
  attrs_of b = up_to S.attrs ++ only b own

-- "Levels: 0 may use no 255, 1 the user one, 2 the resource one, 3 both." There are no others.
abbrev pub own_at : Which → ℕ → Bool
own_at user l = eqb l 1 || eqb l 3
own_at resource l = eqb l 2 || eqb l 3

module _ (P : Setting) where
  -- the form of the atom over two attributes, if they have one: "An atom joins two attributes only if their domains are equal"
  abbrev pub atom_form : ℕ → ℕ → Option Form
  atom_form a b = cond (eqb ((P.side user).domain a) ((P.side resource).domain b)) (form_of ((P.side user).is_set a) ((P.side resource).is_set b)) none

  -- a condition holds of a user and a resource
  unfoldable pub holds : Cond → ℕ → ℕ → Bool
  holds (conjunct w a vs) u r = meets (P.side w) a vs (by w u r)
  holds (atom a b) u r = both (linked (atom_form a b)) ((P.side user).value a u) ((P.side resource).value b r)

  -- "A rule grants the triples that meet all of it."
  unfoldable pub grants : Rule → Block
  grants ρ u r o = bit ρ.ops o && all (λ c. holds c u r) ρ.conds

  -- a condition is one of a level: "Neither [255] stands in an atom." ("User numbers stand in no rule": the user 255 is a set
  -- of roles.)
  unfoldable pub allowed : ℕ → Cond → Bool
  allowed l (conjunct w a vs) = elem a (attrs_of (P.side w) (own_at w l))
  allowed l (atom a b) = ltb a (P.side user).attrs && ltb b (P.side resource).attrs

  -- every condition of a rule is one of a level
  unfoldable pub at : ℕ → Rule → Bool
  at l ρ = all (allowed l) ρ.conds

  -- "A rule's level is the lowest that allows its conjuncts." Atoms without 255 are allowed at every level.
  unfoldable pub rule_level : Rule → ℕ
  rule_level ρ = lowest (λ l. at l ρ)

  -- a conjunct lists a value, and an atom has one of the three forms
  unfoldable pub well_formed : Cond → Bool
  well_formed (conjunct w a vs) = ltb 0 (length vs)
  well_formed (atom a b) = is_some (atom_form a b)

  -- "any rule of this section over the role file's attributes and both 255s, mined or not"
  unfoldable pub of_section : Rule → Bool
  of_section ρ = at 3 ρ && all well_formed ρ.conds

  -- a triple of the policy
  pub record Triple (u r o : ℕ) : Type 0 where
    pub user : u < (P.side user).count
    pub resource : r < (P.side resource).count
    pub op : o < P.slots

  -- a set of triples is not empty
  pub record NotEmpty (B : Block) : Type 0 where
    pub u : ℕ
    pub r : ℕ
    pub o : ℕ
    pub triple : Triple u r o
    pub inside : Is (B u r o)

  -- B has every triple of A
  abbrev pub Within : Block → Block → Type 0
  Within A B = (u r o : ℕ) → Triple u r o → Is (A u r o) → Is (B u r o)

  -- A and B have the same triples
  abbrev pub Same : Block → Block → Type 0
  Same A B = (u r o : ℕ) → Triple u r o → A u r o ≡ B u r o

  -- the test of it
  unfoldable pub same_block : Block → Block → Bool
  same_block A B = all (λ u. all (λ r. all (λ o. iff (A u r o) (B u r o)) (up_to P.slots)) (up_to (P.side resource).count)) (up_to (P.side user).count)

-- a rule without its condition number i
unfoldable pub struck : ℕ → Rule → Rule
struck i ρ = record { ops = ρ.ops; conds = without i ρ.conds }
