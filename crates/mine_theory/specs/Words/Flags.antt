-- Thinning on flags: the conditions of a covering rule have 50 places, and a set of places says which of them a rule has.
-- Assumes nothing.
use Rattle.std.specs.Prelude.{ℕ, zero, suc, ◌/◌, ◌%◌, ◌-◌, eqb, ltb, Bool, cond, ◌&&◌, not}
use Rattle.policy.specs.Covering.{all_know, values_of}
use Rattle.policy.specs.Rules.{by, Setting, Cond, Block, attrs_of, own_at, holds, same_block, conjunct, atom}
use Rattle.sets.specs.Sets.{bit, mask_of}
use Rattle.sets.specs.Tests.{imp, all, up_to, elem}
use Rattle.mine_theory.specs.Words.Words.{Words, members_of, met_by, spans}
use Rattle.role_record.specs.Places.{place_side, place_attribute}

-- the places of conjuncts are those of their attributes, 0 to 13. The atom over the attributes a and b is at 14 + (6 * a + b)
module _ (P : Setting) where
  -- the condition at a place, of a covering rule for these members
  unfoldable pub cond_at : Words → ℕ → Cond
  cond_at W i =
      cond (ltb i 14)
      (conjunct (place_side i) (place_attribute i) (values_of (P.side (place_side i)) (bit (members_of W (place_side i))) (place_attribute i)))
      (atom ((i - 14) / 6) ((i - 14) % 6))

  -- the covering rule at a level has a condition there
  unfoldable pub has_at : Words → ℕ → ℕ → Bool
  has_at W l i =
      cond (ltb i 14)
      (elem (place_attribute i) (attrs_of (P.side (place_side i)) (own_at (place_side i) l)) && all_know (P.side (place_side i)) (bit (members_of W (place_side i))) (place_attribute i))
      (bit W.atoms (i - 14))

  -- it holds, by words
  unfoldable pub holds_at : Words → ℕ → ℕ → ℕ → Bool
  holds_at W i u r =
      cond (ltb i 14)
      (met_by (P.side (place_side i)) (place_attribute i) (bit (members_of W (place_side i))) (by (place_side i) u r))
      (holds P (atom ((i - 14) / 6) ((i - 14) % 6)) u r)

  -- what the rule with the conditions at the places of a set grants
  unfoldable pub places_grant : Words → ℕ → Block
  places_grant W m u r o = bit W.ops o && all (λ i. imp (bit m i) (holds_at W i u r)) (up_to 50)

  -- one turn of thinning: of the places still there, the one in question goes if the grants stay the same
  unfoldable pub thinned_at : Words → ℕ → ℕ → ℕ
  thinned_at W m i =
      cond (bit m i && same_block P (places_grant W (mask_of 64 (λ k. bit m k && not (eqb k i)))) (spans P W))
      (mask_of 64 (λ k. bit m k && not (eqb k i)))
      m

  -- and as many turns as a number says
  abbrev pub thinned_to : Words → ℕ → ℕ → ℕ
  thinned_to W m zero = m
  thinned_to W m (suc n) = thinned_at W (thinned_to W m n) n

  -- the places of the written rule
  unfoldable pub kept_places : Words → ℕ → ℕ
  kept_places W l = thinned_to W (mask_of 50 (has_at W l)) 50
