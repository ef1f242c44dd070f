-- Who meets all conjuncts of a side, by the summary of a rule, is who meets them by its lines; and that is who satisfies them, half by half
-- and as a whole, as 000 says it.
-- Assumes nothing.
use Rattle.std.specs.Prelude.{ℕ, zero, suc, ◌+◌, ◌*◌, ◌%◌, ◌≤◌, ◌<◌, Bool, cond, ◌||◌, ◌≡◌}
use borrow.Author.Tests.{eqb-true, ne_eqb, ltb-true, ltb-false, lt-ltb, le-ltb, not-true}
use Rattle.std.proofs.Math.Dec.{eqb, ltb}
use Rattle.std.proofs.Math.ListN.{length, get_or}
use Rattle.std.proofs.Math.Bool.{true, false, ◌&&◌, not}
use mathlib.Core.List.Memᴰ
use mathlib.Core.List.{List, [], ◌∷◌, ◌++◌}
use Rattle.std.proofs.Common.{⊎_elim, ◌∙◌, subst, arith}
use Rattle.std.proofs.Math.Option.{Option, none, some}
use Rattle.std.proofs.Math.Path.{refl, sym, ap, ap₂}
use Rattle.rule_conjuncts.specs.SummaryLineLaws.{only_none}
use Rattle.rule_conjuncts.specs.Summary.{values_for, met_for, met_table, asked_places, met_by_all}
use Rattle.rule_conjuncts.specs.SummaryLaws.{side-met}
use Rattle.files.specs.Beside.{Beside, beside_of}
use Rattle.files.proofs.LineLaws.{same-side}
use Rattle.files.specs.RoleFile.{side_by, same_side}
use Rattle.files.specs.RuleFile.{RuleCommand, Lines, listed, values_in, conjuncts_in, legal, reshapes, opens, value, operations, link, part, level, ends}
use Rattle.role_record.specs.Places.{place_side, place_attribute, set_place}
use Rattle.role_record.specs.PlacesLaws.{set_means}
use Rattle.role_record.specs.Record.{Sized, record_of}
use Rattle.role_record.specs.RecordLaws.{table_get}
use Rattle.policy.specs.Policy.{Policy, meets_value, is_set_at, value_at, side_of, setting_of, roles_in}
use Rattle.policy.proofs.PolicyLaws.{attributes-of, attribute-of}
use Rattle.policy.specs.Roles.{Roles}
use Rattle.policy.specs.Rules.{own, Which, by, Setting, admits, meets, attrs_of, holds, user, resource}
use Rattle.policy.specs.Satisfying.{Expression, is_top, single_attributes, set_attributes, satisfies_singles, satisfies_sets, satisfies}
use Rattle.policy.proofs.SideLaws.{own_in}
use Rattle.rule_satisfaction.proofs.HalvesLaws.{all_split, and_twice, half-asks, halves-whole}
use Rattle.rule_satisfaction.specs.Satisfaction.{Legal, asks, set_places, asked_as, SummedUp}
use Rattle.sets.specs.ListLaws.{all_ext}
use Rattle.sets.specs.MaskLaws.{bit-mask_of, mask_same, mask_wide}
use Rattle.sets.specs.SetLaws.{bit_mask}
use Rattle.sets.specs.Sets.{narrowing, subset, bit, mask_of}
use Rattle.sets.specs.TestLaws.{and_l, and_r, test, fails, same, imp_in, all-out, all_in, up_to_in, up_to-out, any_ext}
use Rattle.sets.specs.Tests.{Is, imp, iff, all, keep, up_to}

pub legal-rest : (B : Beside) (c : RuleCommand) (ls : Lines) → Legal B (c ∷ ls) → Legal B ls
legal-rest B c ls h d m = h d (Memᴰ.tail m)

-- all conjuncts of a side hold for somebody exactly if every attribute of the side asks no more
pub conjuncts_ask : (F : Policy) (ls : Lines) (w : Which) (u r : ℕ) → all (λ c. holds (setting_of F) c u r) (conjuncts_in (setting_of F) ls w) ≡ all (asks F ls w (by w u r)) (attrs_of ((setting_of F).side w) true)
unfolding asks
conjuncts_ask F ls w u r = side-met (setting_of F) ls w u r

-- ---- what 000 says of an attribute is what its conjunct asks

admits-same : (f g : ℕ → ℕ → Bool) (vs : List ℕ) (o : Option ℕ) → ((v y : ℕ) → f v y ≡ g v y) → admits f vs o ≡ admits g vs o
admits-same f g vs none h = refl
admits-same f g vs (some y) h = any_ext (λ v. f v y) (λ v. g v y) vs (λ v m. h v y)

-- "e(a) = ⊤ ∨ ∃v ∈ e(a)"
top_asks : (f g : ℕ → ℕ → Bool) (vs : List ℕ) (o : Option ℕ) → ((v y : ℕ) → f v y ≡ g v y) → (is_top vs || admits f vs o) ≡ imp (ltb 0 (length vs)) (admits g vs o)
top_asks f g [] o h = refl
top_asks f g (v ∷ vs) o h = admits-same f g (v ∷ vs) o h ∙ sym (ap (λ (b : Bool). imp b (admits g (v ∷ vs) o)) (lt-ltb 0 (length (v ∷ vs)) (omega arith)))

-- "d(u, a) = v"
single-met : (w : Which) (v y : ℕ) → eqb v y ≡ meets_value w false v y
single-met user v y = refl
single-met resource v y = refl

-- "d(u, a) ⊇ v"; of resources "simply using equality"
set-met : (w : Which) (v y : ℕ) → by w subset eqb v y ≡ meets_value w true v y
set-met user v y = refl
set-met resource v y = refl

-- a test of those that pass another
all_keep : (k f g : ℕ → Bool) (l : List ℕ) → ((a : ℕ) → Is (k a) → f a ≡ g a) → all f (keep k l) ≡ all (λ a. imp (k a) (g a)) l
all_keep k f g [] h = refl
all_keep k f g (x ∷ xs) h = go (k x) refl (all_keep k f g xs h)
  where
    go : (b : Bool) → k x ≡ b → all f (keep k xs) ≡ all (λ a. imp (k a) (g a)) xs → all f (cond b (x ∷ keep k xs) (keep k xs)) ≡ (imp b (g x) && all (λ a. imp (k a) (g a)) xs)
    go true e r = ap₂ ◌&&◌ (h x e) r
    go false e r = r

module _ (F : Policy) (ls : Lines) (w : Which) (x : ℕ) where
  attribute-asks : (set : Bool) (f : ℕ → ℕ → Bool) (a : ℕ) → is_set_at F w a ≡ set → ((v y : ℕ) → f v y ≡ meets_value w set v y)
      → (is_top (values_in (setting_of F) ls w a) || admits f (values_in (setting_of F) ls w a) (value_at F w a x)) ≡ asks F ls w x a
  unfolding asks meets setting_of side_of
  attribute-asks set f a e h =
      top_asks f (meets_value w (is_set_at F w a)) (values_in (setting_of F) ls w a) (value_at F w a x) (λ v y. h v y ∙ ap (λ (b : Bool). meets_value w b v y) (sym e))

  -- the half of the single attributes, and that of the sets
  singles_ask : satisfies_singles F w (values_in (setting_of F) ls w) x ≡ all (λ a. imp (not (is_set_at F w a)) (asks F ls w x a)) (attrs_of ((setting_of F).side w) true)
  unfolding satisfies_singles single_attributes setting_of
  singles_ask =
      all_keep (λ a. not (is_set_at F w a)) (λ a. is_top (values_in (setting_of F) ls w a) || admits eqb (values_in (setting_of F) ls w a) (value_at F w a x)) (asks F ls w x) (attrs_of ((setting_of F).side w) true)
      (λ a n. attribute-asks false eqb a (not-true (is_set_at F w a) n) (single-met w))

  sets_ask : satisfies_sets F w (values_in (setting_of F) ls w) x ≡ all (λ a. imp (is_set_at F w a) (asks F ls w x a)) (attrs_of ((setting_of F).side w) true)
  unfolding satisfies_sets set_attributes setting_of
  sets_ask =
      all_keep (is_set_at F w) (λ a. is_top (values_in (setting_of F) ls w a) || admits (by w subset eqb) (values_in (setting_of F) ls w a) (value_at F w a x)) (asks F ls w x) (attrs_of ((setting_of F).side w) true)
      (λ a n. attribute-asks true (by w subset eqb) a n (set-met w))

  -- both together ask what every attribute does
  satisfies-asks : satisfies F w (values_in (setting_of F) ls w) x ≡ all (asks F ls w x) (attrs_of ((setting_of F).side w) true)
  unfolding satisfies
  satisfies-asks = ap₂ ◌&&◌ singles_ask sets_ask ∙ all_split (is_set_at F w) (asks F ls w x) (attrs_of ((setting_of F).side w) true)

-- all conjuncts of a side hold for somebody exactly if he, she or it satisfies them
pub satisfies-conjuncts : (F : Policy) (ls : Lines) (w : Which) (u r : ℕ) → all (λ c. holds (setting_of F) c u r) (conjuncts_in (setting_of F) ls w) ≡ satisfies F w (values_in (setting_of F) ls w) (by w u r)
satisfies-conjuncts F ls w u r = conjuncts_ask F ls w u r ∙ sym (satisfies-asks F ls w (by w u r))

-- ---- places and attributes

-- the side and the attribute of a place
place-shown : (side j : ℕ) → side < 2 → j < 7 → (g : Which → ℕ → Bool) → g (place_side (7 * side + j)) (place_attribute (7 * side + j)) ≡ g (side_by side) (cond (eqb j 6) own j)
place-shown side j hs hj g = ap₂ g (side-of side hs) (let e : (7 * side + j) % 7 ≡ j = omega arith in ap (λ (y : ℕ). cond (eqb y 6) own y) e)
  where
    side-of : (s : ℕ) → s < 2 → place_side (7 * s + j) ≡ side_by s
    side-of zero l = ap (λ (b : Bool). cond b user resource) (lt-ltb (7 * 0 + j) 7 (omega arith))
    side-of (suc zero) l = ap (λ (b : Bool). cond b user resource) (le-ltb (7 * 1 + j) 7 (omega arith))
    side-of (suc (suc n)) l = absurd (omega arith)

-- the kind of an attribute, by its place
place_kind : (F : Policy) (side j : ℕ) → side < 2 → j < 7 → bit (set_places (record_of F).kinds) (7 * side + j) ≡ is_set_at F (side_by side) (cond (eqb j 6) own j)
unfolding set_places setting_of side_of
place_kind F side j hs hj =
    bit_mask 14 (set_place (record_of F).kinds) (7 * side + j) (omega arith) ∙ set_means F (7 * side + j) (omega arith) ∙ place-shown side j hs hj (λ w a. ((setting_of F).side w).is_set a)

-- a second test need agree only where the first passes
and_where : (c a b : Bool) → (Is c → a ≡ b) → (c && a) ≡ (c && b)
and_where true a b h = h refl
and_where false a b h = refl

module _ (F : Policy) (Z : Sized F) where
  -- ---- no value is listed for an attribute that is not there

  not_listed : (w : Which) (a : ℕ) → (a ≡ own → ⊥) → length (F.table w).kinds ≤ a → (s : Bool) (c : RuleCommand) → Is (legal (beside_of F) c) → listed w s a c ≡ []
  unfolding legal setting_of side_of
  not_listed w a n k s reshapes h = refl
  not_listed w a n k s opens h = refl
  not_listed w a n k s (value x t b v) h = only_none (same_side w x && (iff s t && eqb a b)) v (fails _ there)
    where
      there : Is (same_side w x && (iff s t && eqb a b)) → ⊥
      there q =
          let e = eqb-true a b (and_r (iff s t) _ (and_r (same_side w x) _ q)) in
          let d = same-side w x (and_l (same_side w x) _ q) in
          let r = and_l (ltb b (length (F.table x).kinds)) _ (rw (ne_eqb b own (λ z. n (e ∙ z))) at h) in
          let l = ltb-true b (length (F.table x).kinds) r in
          let m = ap (λ (y : Which). length (F.table y).kinds) d in
          absurd (omega arith)
  not_listed w a n k s (operations m) h = refl
  not_listed w a n k s (link x b) h = refl
  not_listed w a n k s (part x m) h = refl
  not_listed w a n k s (level x) h = refl
  not_listed w a n k s ends h = refl

  none-listed : (w : Which) (a : ℕ) → (a ≡ own → ⊥) → length (F.table w).kinds ≤ a → (ls : Lines) → Legal (beside_of F) ls → values_in (setting_of F) ls w a ≡ []
  unfolding values_in
  none-listed w a n k [] h = refl
  none-listed w a n k (c ∷ ls) h =
      ap (λ t. t ++ values_in (setting_of F) ls w a) (not_listed w a n k (((setting_of F).side w).is_set a) c (h c (Memᴰ.head refl)))
      ∙ none-listed w a n k ls (legal-rest (beside_of F) c ls h)

  module _ (ls : Lines) (h : Legal (beside_of F) ls) where
    -- ---- the conjuncts of a side

    none-asks : (w : Which) (x a : ℕ) → values_in (setting_of F) ls w a ≡ [] → Is (asks F ls w x a)
    unfolding asks
    none-asks w x a e = ap (λ vs. imp (ltb 0 (length vs)) (meets ((setting_of F).side w) a vs x)) e

    -- one place of the summary
    place-asks : (side j x : ℕ) → side < 2 → j < 7 → x < ((setting_of F).side (side_by side)).count
        → imp (bit (asked_places (setting_of F) ls) (7 * side + j)) (bit (get_or (met_table (setting_of F) ls) (7 * side + j) 0) x) ≡ asks F ls (side_by side) x (cond (eqb j 6) own j)
    unfolding asked_places met_table met_for values_for asks
    place-asks side j x hs hj hc =
        ap₂ imp
        (bit_mask 14 (λ i. ltb 0 (length (values_for (setting_of F) ls i))) (7 * side + j) (omega arith) ∙ place-shown side j hs hj (λ w a. ltb 0 (length (values_in (setting_of F) ls w a))))
        (ap (λ (m : ℕ). bit m x) (table_get 14 (met_for (setting_of F) ls) (7 * side + j) (omega arith)) ∙ place-shown side j hs hj (λ w a. bit (mask_of ((setting_of F).side w).count (meets ((setting_of F).side w) a (values_in (setting_of F) ls w a))) x)
        ∙ bit_mask ((setting_of F).side (side_by side)).count (meets ((setting_of F).side (side_by side)) (cond (eqb j 6) own j) (values_in (setting_of F) ls (side_by side) (cond (eqb j 6) own j))) x hc)

    -- a test of the seven places is one of the attributes of the side, if it passes where nothing is listed
    seven_places : (w : Which) (f : ℕ → Bool) → ((a : ℕ) → values_in (setting_of F) ls w a ≡ [] → Is (f a)) → all (λ j. f (cond (eqb j 6) own j)) (up_to 7) ≡ all f (attrs_of ((setting_of F).side w) true)
    seven_places w f free = same (all (λ j. f (cond (eqb j 6) own j)) (up_to 7)) (all f (attrs_of ((setting_of F).side w) true)) there back
      where
        there : Is (all (λ j. f (cond (eqb j 6) own j)) (up_to 7)) → Is (all f (attrs_of ((setting_of F).side w) true))
        there q = all_in f (attrs_of ((setting_of F).side w) true) (λ a m. ⊎_elim
            (λ (l : a < length (F.table w).kinds). let k = Z.declared w in subst (λ (y : ℕ). Is (f y)) (ap (λ (b : Bool). cond b own a) (ne_eqb a 6 (λ z. omega arith))) (all-out (λ j. f (cond (eqb j 6) own j)) q (up_to_in {n = 7} {i = a} (omega arith))))
            (λ (e : a ≡ own). rw e (all-out (λ j. f (cond (eqb j 6) own j)) q (up_to_in {n = 7} {i = 6} (omega arith))))
            (attributes-of F w a m))

        back : Is (all f (attrs_of ((setting_of F).side w) true)) → Is (all (λ j. f (cond (eqb j 6) own j)) (up_to 7))
        back q = all_in (λ j. f (cond (eqb j 6) own j)) (up_to 7) (λ j m. test (eqb j 6)
            (λ e. rw e (all-out f q (own_in ((setting_of F).side w) true refl)))
            (λ e. rw e (test (ltb j (length (F.table w).kinds))
            (λ l. all-out f q (attribute-of F w j (ltb-true j (length (F.table w).kinds) l)))
            (λ l. let b = up_to-out 7 m in free j (none-listed w j (λ z. omega arith) (ltb-false j (length (F.table w).kinds) l) ls h)))))

    module _ (side : ℕ) (hs : side < 2) where
      abbrev w : Which
      w = side_by side

      abbrev many : ℕ
      many = ((setting_of F).side w).count

      abbrev e : Expression
      e = values_in (setting_of F) ls w

      abbrev met : List ℕ
      met = met_table (setting_of F) ls

      abbrev asked : ℕ
      asked = asked_places (setting_of F) ls

      abbrev kinds : List ℕ
      kinds = (record_of F).kinds

      few : many ≤ 64
      unfolding setting_of side_of
      few = Z.many w

      -- what the attributes of a kind ask of somebody
      abbrev kind_asks : Bool → ℕ → Bool
      kind_asks set x = all (λ a. imp (iff set (is_set_at F w a)) (asks F ls w x a)) (attrs_of ((setting_of F).side w) true)

      -- the places of a kind ask it
      half_places : (set : Bool) (x : ℕ) → x < many → all (λ j. imp (iff set (bit (set_places kinds) (7 * side + j))) (imp (bit asked (7 * side + j)) (bit (get_or met (7 * side + j) 0) x))) (up_to 7) ≡ kind_asks set x
      half_places set x hc =
          all_ext
          (λ j. imp (iff set (bit (set_places kinds) (7 * side + j))) (imp (bit asked (7 * side + j)) (bit (get_or met (7 * side + j) 0) x)))
          (λ j. imp (iff set (is_set_at F w (cond (eqb j 6) own j))) (asks F ls w x (cond (eqb j 6) own j))) (up_to 7)
          (λ j m. ap₂ (λ (k b : Bool). imp (iff set k) b) (place_kind F side j hs (up_to-out 7 m)) (place-asks side j x hs (up_to-out 7 m) hc))
          ∙ seven_places w (λ a. imp (iff set (is_set_at F w a)) (asks F ls w x a)) (λ a q. imp_in (iff set (is_set_at F w a)) (asks F ls w x a) (λ p. none-asks w x a q))

      -- who meets the conjuncts of a kind
      half_means : (set : Bool) → met_by_all met (asked_as set kinds asked) side many ≡ mask_of many (kind_asks set)
      unfolding met_by_all
      half_means set =
          mask_same 64
          (narrowing (mask_of 64 (λ y. ltb y many)) (λ i. bit (asked_as set kinds asked) (7 * side + i)) (λ i. get_or met (7 * side + i) 0) 7)
          (λ x. ltb x many && kind_asks set x)
          (λ x l. ap₂ ◌&&◌ (bit_mask 64 (λ y. ltb y many) x l) (half-asks met kinds asked side hs set x) ∙ and_where (ltb x many) _ _ (λ q. half_places set x (ltb-true x many q)))
          ∙ sym (mask_wide many 64 (kind_asks set) few)

      -- ---- THE LAWS: each half is who satisfies 000's half, and the whole who satisfies both
      pub singles_mean : met_by_all (met_table (setting_of F) ls) (asked_as false (record_of F).kinds (asked_places (setting_of F) ls)) side ((setting_of F).side (side_by side)).count
          ≡ mask_of ((setting_of F).side (side_by side)).count (satisfies_singles F (side_by side) (values_in (setting_of F) ls (side_by side)))
      singles_mean = half_means false ∙ mask_same many (kind_asks false) (satisfies_singles F w e) (λ x l. sym (singles_ask F ls w x))

      pub sets_mean : met_by_all (met_table (setting_of F) ls) (asked_as true (record_of F).kinds (asked_places (setting_of F) ls)) side ((setting_of F).side (side_by side)).count
          ≡ mask_of ((setting_of F).side (side_by side)).count (satisfies_sets F (side_by side) (values_in (setting_of F) ls (side_by side)))
      sets_mean = half_means true ∙ mask_same many (kind_asks true) (satisfies_sets F w e) (λ x l. sym (sets_ask F ls w x))

      pub whole_means : met_by_all (met_table (setting_of F) ls) (asked_places (setting_of F) ls) side ((setting_of F).side (side_by side)).count
          ≡ mask_of ((setting_of F).side (side_by side)).count (satisfies F (side_by side) (values_in (setting_of F) ls (side_by side)))
      unfolding satisfies
      whole_means =
          sym (halves-whole met kinds asked side hs many (mask_of many (satisfies_singles F w e)) (mask_of many (satisfies_sets F w e)) _ (sym singles_mean) (sym sets_mean) refl)
          ∙ mask_same 64
          (λ x. bit (mask_of many (satisfies_singles F w e)) x && bit (mask_of many (satisfies_sets F w e)) x)
          (λ x. ltb x many && (satisfies_singles F w e x && satisfies_sets F w e x))
          (λ x l. ap₂ ◌&&◌ (bit-mask_of many (satisfies_singles F w e) x) (bit-mask_of many (satisfies_sets F w e) x) ∙ and_twice (ltb x many) (satisfies_singles F w e x) (satisfies_sets F w e x))
          ∙ sym (mask_wide many 64 (λ x. satisfies_singles F w e x && satisfies_sets F w e x) few)

    -- who meets all conjuncts of a side
    pub side-bit : (side x : ℕ) → side < 2 → x < 64
        → bit (met_by_all (met_table (setting_of F) ls) (asked_places (setting_of F) ls) side ((setting_of F).side (side_by side)).count) x ≡ (ltb x ((setting_of F).side (side_by side)).count && all (asks F ls (side_by side) x) (attrs_of ((setting_of F).side (side_by side)) true))
    side-bit side x hs hx =
        ap (λ (m : ℕ). bit m x) (whole_means side hs)
        ∙ bit-mask_of ((setting_of F).side (side_by side)).count (satisfies F (side_by side) (values_in (setting_of F) ls (side_by side))) x
        ∙ ap (λ (b : Bool). ltb x ((setting_of F).side (side_by side)).count && b) (satisfies-asks F ls (side_by side) x)

-- ---- the promise of a half

-- what holds of a summary and the kinds of a policy holds of the tables that are these
summed : (F : Policy) (ls : Lines) (met kinds : List ℕ) (asked side count : ℕ) → SummedUp F ls met asked kinds side count → (Q : List ℕ → List ℕ → ℕ → ℕ → Type 0)
    → Q (met_table (setting_of F) ls) (record_of F).kinds (asked_places (setting_of F) ls) ((setting_of F).side (side_by side)).count → Q met kinds asked count
summed F ls met kinds asked side count s Q q =
    subst (λ (m : List ℕ). Q m kinds asked count) (sym s.met-so)
    (subst (λ (k : List ℕ). Q (met_table (setting_of F) ls) k asked count) (sym s.kinds-so)
    (subst (λ (m : ℕ). Q (met_table (setting_of F) ls) (record_of F).kinds m count) (sym s.asked-so)
    (subst (λ (n : ℕ). Q (met_table (setting_of F) ls) (record_of F).kinds (asked_places (setting_of F) ls) n) (sym s.count-so) q)))

-- who meets the conjuncts of a kind is who satisfies that half, of every policy whose tables these are
pub half-so : (set : Bool) (met kinds : List ℕ) (asked side count p m r : ℕ) (f : Policy → Lines → ℕ → Bool)
    → ((F : Policy) (Z : Sized F) (ls : Lines) → Legal (beside_of F) ls → met_by_all (met_table (setting_of F) ls) (asked_as set (record_of F).kinds (asked_places (setting_of F) ls)) side ((setting_of F).side (side_by side)).count ≡ mask_of ((setting_of F).side (side_by side)).count (f F ls))
    → p ≡ set_places kinds → m ≡ mask_of 64 (λ k. bit asked k && iff set (bit p k)) → r ≡ met_by_all met m side count
    → (r ≡ met_by_all met (asked_as set kinds asked) side count) × ((F : Policy) → (ls : Lines) → SummedUp F ls met asked kinds side count → r ≡ mask_of count (f F ls))
unfolding asked_as
half-so set met kinds asked side count p m r f law ep em er =
    let e : r ≡ met_by_all met (asked_as set kinds asked) side count = er ∙ ap (λ (k : ℕ). met_by_all met k side count) (em ∙ ap (λ (q : ℕ). mask_of 64 (λ k. bit asked k && iff set (bit q k))) ep) in
    (e, λ F ls s. e ∙ summed F ls met kinds asked side count s (λ (t k : List ℕ) (a n : ℕ). met_by_all t (asked_as set k a) side n ≡ mask_of n (f F ls)) (law F s.sized ls s.lawful))
