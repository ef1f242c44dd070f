-- A set of triples summed up in four words, and what its covering rule, its level and merging come to in terms of them.
-- Assumes nothing.
use Rattle.std.specs.Prelude.{ℕ, ◌/◌, ◌%◌, ◌≤◌, ltb, Bool, ◌&&◌, ◌||◌, List}
use Rattle.policy.specs.Covering.{all_know, op_in, stands_in, everywhere}
use Rattle.policy.specs.Roles.{Roles, Part}
use Rattle.policy.specs.Rules.{Side, Which, by, Setting, Block, both, attrs_of, own_at, holds, same_block, user, resource, atom}
use Rattle.sets.specs.Sets.{bit, mask_of}
use Rattle.sets.specs.Tests.{imp, all, any, up_to}

-- a set of triples summed up: who stands in it on either side, its operations, and the atoms true of all its pairs (number
-- 6 * user attribute + resource attribute)
pub record Words : Type 0 where
  pub users : ℕ
  pub resources : ℕ
  pub ops : ℕ
  pub atoms : ℕ

abbrev pub members_of : Words → Which → ℕ
members_of W w = by w W.users W.resources

-- what the tables of the miner have room for
pub record Roomy (P : Setting) : Type 0 where
  pub many : (w : Which) → (P.side w).count ≤ 64
  pub attributes : (w : Which) → (P.side w).attrs ≤ 6
  pub operable : P.slots ≤ 64

module _ (S : Side) where
  -- somebody meets the value that one of a set has
  unfoldable pub met_by : ℕ → (ℕ → Bool) → ℕ → Bool
  met_by a W x = any (λ y. W y && both (S.below a) (S.value a y) (S.value a x)) (up_to S.count)

  -- somebody meets the conjuncts of a set's covering rule over these attributes
  unfoldable pub passes : List ℕ → (ℕ → Bool) → ℕ → Bool
  passes among W x = all (λ a. imp (all_know S W a) (met_by a W x)) among

-- the words of two sets together
unfoldable pub joined : Words → Words → Words
joined W X = record {
  users = mask_of 64 (λ k. bit W.users k || bit X.users k);
  resources = mask_of 64 (λ k. bit W.resources k || bit X.resources k);
  ops = mask_of 64 (λ k. bit W.ops k || bit X.ops k);
  atoms = mask_of 64 (λ k. bit W.atoms k && bit X.atoms k);
}

abbrev pub together : Block → Block → Block
together A B u r o = A u r o || B u r o

module _ (P : Setting) where
  -- an atom over declared attributes that is true of all pairs of B
  unfoldable pub atom_in : Block → ℕ → ℕ → Bool
  atom_in B a b = ltb a (P.side user).attrs && (ltb b (P.side resource).attrs && everywhere P B (atom a b))

  unfoldable pub words_of : Block → Words
  words_of B = record {
    users = mask_of (P.side user).count (stands_in P B user);
    resources = mask_of (P.side resource).count (stands_in P B resource);
    ops = mask_of P.slots (op_in P B);
    atoms = mask_of 36 (λ i. atom_in B (i / 6) (i % 6));
  }

  -- all atoms of a word hold of a user and a resource
  unfoldable pub atoms_hold : ℕ → ℕ → ℕ → Bool
  atoms_hold m u r = all (λ i. imp (bit m i) (holds P (atom (i / 6) (i % 6)) u r)) (up_to 36)

  -- what the covering rule at a level grants
  unfoldable pub cover_grants : Words → ℕ → Block
  cover_grants W l u r o =
      bit W.ops o
      && (passes (P.side user) (attrs_of (P.side user) (own_at user l)) (bit W.users) u
      && (passes (P.side resource) (attrs_of (P.side resource) (own_at resource l)) (bit W.resources) r
      && atoms_hold W.atoms u r))

  -- the triples of a group, from its words
  unfoldable pub spans : Words → Block
  spans W u r o = bit W.ops o && (bit W.users u && (bit W.resources r && atoms_hold W.atoms u r))

  -- the union of two groups fits a level; one group does
  unfoldable pub pair_fits : Words → Words → ℕ → Bool
  pair_fits W X l = same_block P (cover_grants (joined W X) l) (together (spans W) (spans X))

  unfoldable pub own_fits : Words → ℕ → Bool
  own_fits W l = same_block P (cover_grants W l) (spans W)

  -- an atom over declared attributes that is true of every holder and every resource of a part
  unfoldable pub part_atom : Roles → Part → ℕ → ℕ → Bool
  part_atom R p a b =
      ltb a (P.side user).attrs
      && (ltb b (P.side resource).attrs
      && all (λ u. all (λ r. imp (R.held p.role u && R.gives p.role r p.lead) (holds P (atom a b) u r)) (up_to (P.side resource).count)) (up_to (P.side user).count))
