-- THE LAW: filled from the tables of distinct values, the table is that of who meets whose value.
-- Assumes nothing.
use Prim.Native.Nat.{ℕ, ◌+◌, ◌*◌, ◌/◌, ◌%◌, ◌≤◌, ◌<◌}
use borrow.Author.Tests.{eqb-true, eqb-false, eq-eqb, ne_eqb, ltb-true, ltb-false, lt-ltb}
use Rattle.std.proofs.Math.Dec.{eqb, ltb}
use Rattle.std.proofs.Math.ListN.{get_or}
use Rattle.std.specs.Prelude.{Bool, List, ◌≡◌, refl}
use Rattle.std.proofs.Math.Bool.{true, false, cond, ◌&&◌, ◌||◌, and-true, and_assoc}
use Rattle.std.proofs.Math.Path.{sym, ap, ap₂}
use Rattle.std.proofs.Common.{◌∙◌}
use native.Mathlib.Omega.{arith}
use Rattle.role_record.specs.RecordLaws.{table_get, table_ext}
use Rattle.mine_matches.specs.Matches.{known_for, known_places, match_word, match_table}
use Rattle.mine_matches.specs.MatchTableLaws.{count_room}
use Rattle.rule_meeting.specs.Meeting.{order, meets_at, holds_all, meeting_of}
use Rattle.sets.specs.MaskLaws.{bit-mask_of, mask_same, mask_wide, mask_none}
use Rattle.sets.specs.Sets.{bit, subset, mask_of}
use Rattle.sets.specs.SetLaws.{bit-none, subset_in, subset-out, bit_mask}
use Rattle.sets.specs.Tests.{Is, imp, all, any, up_to}
use Rattle.sets.specs.TestLaws.{and_in, and_l, and_r, test, fails, same, imp_in, imp-out, all_in, all-out, up_to_in, up_to-out}
use Rattle.mine_tables.specs.Matching.{met_by_number}
use Rattle.grant_joins.specs.Tables.{value_count}
use Rattle.grant_distinct.specs.Distinct.{distinct_table, having_table}
use Rattle.grant_values.specs.PlaceValues.{count_at, held_roles, value_for}
use Rattle.mine_matches.specs.MatchTableLaws.{known_valued}
use Rattle.grant_tables.specs.RankLaws.{Ranked, pairs-tested, both_have, tables_ranked, valued_by}
use Rattle.grant_tables.specs.RelationLaws.{rel_table, any_met, turned-block, turned-all}
use Rattle.grant_joins.specs.Tables.{meet_of, joins, union_of}
use Rattle.mine_tables.specs.Matching.{match_value, match_place, matches_by}
use Rattle.grant_listed.specs.Values.{lists_least}

-- ---- what the turns come to

module _ (distinct having known kinds : List ℕ) where
  abbrev members_of : (place k : ℕ) → ℕ
  members_of place k = meet_of (get_or known place 0) (get_or having (64 * place + k) 0)

  abbrev met_of : (place k : ℕ) → ℕ
  met_of place k = meet_of (get_or known place 0) (met_by_number distinct having kinds place k)

  abbrev match_rel : (place y x : ℕ) → Bool
  match_rel place y x = any (λ k. bit (members_of place k) y && bit (met_of place k) x) (up_to (value_count having place))

  matches_rel : matches_by distinct having known kinds ≡ rel_table 896 (λ i x. match_rel (i / 64) (i % 64) x)
  unfolding matches_by match_place match_value
  matches_rel =
      turned-all 896 14 (match_place distinct having known kinds) match_rel
      (λ place f. turned-block 896 place (match_value distinct having known kinds place) (members_of place) (met_of place) (λ k t. refl) (value_count having place) f)
      (λ i l. omega arith)

-- ---- who meets whose value

module _ (distinct having known kinds : List ℕ) (valued : ℕ → ℕ → Bool) (value : ℕ → ℕ → ℕ) (R : Ranked distinct having valued value) where
  met-tested : (p y x : ℕ) → p < 14 → y < 64 → x < 64 → ((z : ℕ) → z < 64 → Is (bit (get_or known p 0) z) → Is (valued p z))
      → match_rel distinct having known kinds p y x ≡ (bit (get_or known p 0) y && (bit (get_or known p 0) x && order (lists_least kinds p) (value p y) (value p x)))
  unfolding met_by_number joins
  met-tested p y x hp hy hx within =
      any_met (get_or known p 0) (get_or known p 0) (λ k. get_or having (64 * p + k) 0) (met_by_number distinct having kinds p) y x hy hx (up_to (value_count having p))
      ∙ ap (λ (b : Bool). bit (get_or known p 0) y && (bit (get_or known p 0) x && b)) (go (lists_least kinds p))
      ∙ twice (bit (get_or known p 0) y) (bit (get_or known p 0) x) (valued p y) (valued p x) (order (lists_least kinds p) (value p y) (value p x)) (within y hy) (within x hx)
    where
      go : (b : Bool)
          → any (λ k. bit (get_or having (64 * p + k) 0) y && bit (cond b (union_of distinct having (joins true true true (get_or distinct (64 * p + k) 0)) p (value_count having p)) (get_or having (64 * p + k) 0)) x) (up_to (value_count having p))
          ≡ (valued p y && (valued p x && order b (value p y) (value p x)))
      go true = pairs-tested distinct having valued value R (joins true true true) p p y x hp hp hy hx
      go false = both_have distinct having valued value R p y x hp hy hx

      twice : (a b c d e : Bool) → (Is a → Is c) → (Is b → Is d) → (a && (b && (c && (d && e)))) ≡ (a && (b && e))
      twice true true c d e f g = rw (f refl, g refl) refl
      twice true false c d e f g = refl
      twice false b c d e f g = refl

-- a user holds all roles of another, if the set of the one contains that of the other
held-subset : (holders : List ℕ) (roles y x : ℕ) → subset (held_roles holders roles y) (held_roles holders roles x) ≡ holds_all holders roles (held_roles holders roles y) x
unfolding held_roles holds_all
held-subset holders roles y x = same (subset (held_roles holders roles y) (held_roles holders roles x)) (all (λ k. imp (bit (held_roles holders roles y) k) (bit (get_or holders k 0) x)) (up_to roles))
    (λ h. all_in (λ k. imp (bit (held_roles holders roles y) k) (bit (get_or holders k 0) x)) (up_to roles) λ k m. imp_in (bit (held_roles holders roles y) k) (bit (get_or holders k 0) x) λ b.
    sym (bit_mask roles (λ k. bit (get_or holders k 0) x) k (up_to-out roles m)) ∙ subset-out (held_roles holders roles y) (held_roles holders roles x) h k b)
    (λ h. subset_in (held_roles holders roles y) (held_roles holders roles x) λ k b.
    let l = ltb-true k roles (and_l (ltb k roles) _ (sym (bit-mask_of roles (λ k. bit (get_or holders k 0) y) k) ∙ b)) in
    bit_mask roles (λ k. bit (get_or holders k 0) x) k l ∙ imp-out (bit (get_or holders k 0) x) (all-out (λ k. imp (bit (held_roles holders roles y) k) (bit (get_or holders k 0) x)) h (up_to_in l)) b)

module _ (kinds known values holders : List ℕ) (users resources roles : ℕ) where
  abbrev knows : ℕ → ℕ → Bool
  knows p = bit (known_for users resources known p)

  abbrev met : ℕ → ℕ → ℕ → Bool
  met p y x = knows p x && order (lists_least kinds p) (value_for values holders roles p y) (value_for values holders roles p x)

  abbrev meeting_at : ℕ → ℕ → ℕ
  meeting_at p y = meeting_of (p / 7) (bit (get_or kinds (p / 7) 0) (p % 7)) (p % 7) (value_for values holders roles p y) (count_at users resources p) roles known values holders

  -- of an attribute that is declared
  least-declared : (p : ℕ) → p < 14 → p % 7 < 6 → lists_least kinds p ≡ cond (eqb (p / 7) 0) (bit (get_or kinds (p / 7) 0) (p % 7)) false
  unfolding lists_least
  least-declared p hp h = test (ltb p 7)
      (λ t. let l = ltb-true p 7 t in
      let e : p % 7 ≡ p = omega arith in
      let d : p / 7 ≡ 0 = omega arith in
      rw (t, ne_eqb p 6 (λ z. omega arith), e, d) refl)
      (λ t. let l = ltb-false p 7 t in
      let d : p / 7 ≡ 1 = omega arith in
      rw (t, d) refl)

  meeting_declared : (p y : ℕ) → p < 14 → p % 7 < 6 → count_at users resources p ≤ 64 → mask_of 64 (met p y) ≡ meeting_at p y
  unfolding meeting_of meets_at known_for value_for
  meeting_declared p y hp h room =
      mask_same 64 (met p y) (λ x. ltb x (count_at users resources p) && met_there x) (λ x hx.
      ap₂ ◌&&◌ (bit-mask_of (count_at users resources p) (λ x. eqb (p % 7) 6 || bit (get_or known column 0) x) x ∙ ap (λ (b : Bool). ltb x (count_at users resources p) && (b || bit (get_or known column 0) x)) (ne_eqb (p % 7) 6 (λ z. omega arith)))
      (ap₂ (λ (b c : Bool). order b (cond c (get_or values (64 * column + y) 0) (cond (ltb p 7) (held_roles holders roles y) y)) (cond c (get_or values (64 * column + x) 0) (cond (ltb p 7) (held_roles holders roles x) x))) (least-declared p hp h) (lt-ltb (p % 7) 6 h))
      ∙ and_assoc (ltb x (count_at users resources p)) (bit (get_or known column 0) x) (order within (get_or values (64 * column + y) 0) (get_or values (64 * column + x) 0)))
      ∙ sym (mask_wide (count_at users resources p) 64 met_there room)
      ∙ sym (ap (λ (c : Bool). cond c (mask_of (count_at users resources p) (λ x. bit (get_or known column 0) x && order within (cond c (get_or values (64 * column + y) 0) (cond (ltb p 7) (held_roles holders roles y) y)) (get_or values (64 * column + x) 0)))
      (cond (eqb (p / 7) 0) (mask_of (count_at users resources p) (holds_all holders roles (cond c (get_or values (64 * column + y) 0) (cond (ltb p 7) (held_roles holders roles y) y)))) (mask_of 64 (λ k. bit 0 k || eqb k (cond c (get_or values (64 * column + y) 0) (cond (ltb p 7) (held_roles holders roles y) y)))))) (lt-ltb (p % 7) 6 h))
    where
      column : ℕ
      column = 6 * (p / 7) + p % 7

      within : Bool
      within = cond (eqb (p / 7) 0) (bit (get_or kinds (p / 7) 0) (p % 7)) false

      met_there : ℕ → Bool
      met_there x = bit (get_or known column 0) x && order within (get_or values (64 * column + y) 0) (get_or values (64 * column + x) 0)

  -- of the roles held
  meeting_roles : (y : ℕ) → users ≤ 64 → mask_of 64 (met 6 y) ≡ meeting_at 6 y
  unfolding meeting_of known_for value_for lists_least
  meeting_roles y room =
      mask_same 64 (met 6 y) (λ x. ltb x users && holds_all holders roles (held_roles holders roles y) x)
      (λ x hx. ap₂ ◌&&◌ (bit-mask_of users (λ x. true) x ∙ and-true (ltb x users)) (held-subset holders roles y x))
      ∙ sym (mask_wide users 64 (holds_all holders roles (held_roles holders roles y)) room)

  -- of the resource's own number
  meeting_number : (y : ℕ) → Is (knows 13 y) → mask_of 64 (met 13 y) ≡ meeting_at 13 y
  unfolding meeting_of value_for lists_least
  meeting_number y k = mask_same 64 (met 13 y) (λ x. bit 0 x || eqb x y) λ x hx. test (eqb x y)
      (λ e. let d = eqb-true x y e in and_in (ap (knows 13) d ∙ k) (eq-eqb y x (sym d)) ∙ sym (ap₂ ◌||◌ (bit-none x) e))
      (λ e. let d = eqb-false x y e in fails (met 13 y x) (λ p. d (sym (eqb-true y x (and_r (knows 13 x) _ p)))) ∙ sym (ap₂ ◌||◌ (bit-none x) e))

  meeting_known : (p y : ℕ) → users ≤ 64 → resources ≤ 64 → p < 14 → Is (knows p y) → mask_of 64 (met p y) ≡ meeting_at p y
  meeting_known p y hu hr hp k = test (eqb (p % 7) 6)
      (λ e. let d = eqb-true (p % 7) 6 e in test (eqb p 6)
      (λ q. rw (eqb-true p 6 q) (meeting_roles y hu))
      (λ q. let c = eqb-false p 6 q in let t : p ≡ 13 = omega arith in rw t (meeting_number y (rw t at k))))
      (λ e. let d = eqb-false (p % 7) 6 e in meeting_declared p y hp (omega arith) (count_room users resources p hu hr))

  match-word : (p y : ℕ) → users ≤ 64 → resources ≤ 64 → p < 14 → mask_of 64 (λ x. knows p y && met p y x) ≡ match_word kinds known values holders users resources roles p y
  unfolding match_word
  match-word p y hu hr hp = test (knows p y)
      (λ e. ap (λ (b : Bool). mask_of 64 (λ x. b && met p y x)) e ∙ meeting_known p y hu hr hp e ∙ sym (ap (λ (b : Bool). cond b (meeting_at p y) 0) e))
      (λ e. ap (λ (b : Bool). mask_of 64 (λ x. b && met p y x)) e ∙ mask_none 64 (λ x. false) (λ x l. refl) ∙ sym (ap (λ (b : Bool). cond b (meeting_at p y) 0) e))

pub matches_means : (distinct having known kinds knows values holders : List ℕ) (users resources roles : ℕ) (out : List ℕ) → users ≤ 64 → resources ≤ 64 → out ≡ matches_by distinct having known kinds
    → known ≡ known_places users resources knows → distinct ≡ distinct_table knows values holders users resources roles → having ≡ having_table knows values holders users resources roles
    → out ≡ match_table kinds knows values holders users resources roles
unfolding match_table known_places
matches_means distinct having known kinds knows values holders users resources roles out hu hr e ek ed eh =
    e ∙ ap₂ (λ (d h : List ℕ). matches_by d h known kinds) ed eh ∙ matches_rel D H known kinds
    ∙ table_ext 896 (λ i. mask_of 64 (match_rel D H known kinds (i / 64) (i % 64))) (λ i. match_word kinds knows values holders users resources roles (i / 64) (i % 64))
    (λ i l. mask_same 64 (match_rel D H known kinds (i / 64) (i % 64)) (λ x. bit (get_or known (i / 64) 0) (i % 64) && (bit (get_or known (i / 64) 0) x && order (lists_least kinds (i / 64)) (value_for values holders roles (i / 64) (i % 64)) (value_for values holders roles (i / 64) x)))
    (λ x hx. met-tested D H known kinds (valued_by knows values holders users resources roles) (value_for values holders roles) (tables_ranked knows values holders users resources roles) (i / 64) (i % 64) x (omega arith) (omega arith) hx
    (λ z hz b. known_valued users resources knows (i / 64) z hz (sym (ap (λ (m : ℕ). bit m z) (known-word (i / 64) (omega arith))) ∙ b)))
    ∙ ap (λ (m : ℕ). mask_of 64 (λ x. bit m (i % 64) && (bit m x && order (lists_least kinds (i / 64)) (value_for values holders roles (i / 64) (i % 64)) (value_for values holders roles (i / 64) x))))
    (known-word (i / 64) (omega arith))
    ∙ match-word kinds knows values holders users resources roles (i / 64) (i % 64) hu hr (omega arith))
  where
    D : List ℕ
    D = distinct_table knows values holders users resources roles

    H : List ℕ
    H = having_table knows values holders users resources roles

    known-word : (p : ℕ) → p < 14 → get_or known p 0 ≡ known_for users resources knows p
    known-word p h = ap (λ (t : List ℕ). get_or t p 0) ek ∙ table_get 14 (known_for users resources knows) p h
