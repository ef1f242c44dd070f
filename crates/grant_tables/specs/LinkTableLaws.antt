-- THE LAW: filled from the tables of distinct values, the table of links is that of the atoms that hold.
-- Assumes nothing.
use Prim.Native.Nat.{ℕ, ◌+◌, ◌*◌, ◌/◌, ◌%◌, ◌≤◌, ◌<◌}
use borrow.Author.Tests.{lt-ltb}
use Rattle.std.proofs.Math.Dec.{ltb}
use Rattle.std.proofs.Math.ListN.{get_or}
use Rattle.std.proofs.Math.Bool.{Bool, false, and-false}
use Rattle.std.specs.Prelude.{true, cond, ◌&&◌, List, ◌≡◌}
use Rattle.std.proofs.Math.Option.{Option, none, some}
use Rattle.std.proofs.Math.Path.{refl, sym}
use Rattle.std.proofs.Common.{ap, ap₂, ◌∙◌}
use native.Mathlib.Omega.{arith}
use Rattle.grant_distinct.specs.Distinct.{distinct_table, having_table}
use Rattle.grant_grids.specs.Links.{value_in, form_in, link_holds, link_word, link_table}
use Rattle.grant_tables.specs.RankLaws.{Ranked, pairs-tested, valued_by, tables_ranked}
use Rattle.grant_tables.specs.RelationLaws.{rel_table, turned-block, turned-all, any-there}
use Rattle.grant_joins.specs.Tables.{joins, union_of, linked_to, link_value, looked_at, link_atom, links_by}
use Rattle.grant_joins.specs.Tables.{value_count}
use Rattle.grant_values.specs.PlaceValues.{knowing, value_for}
use Rattle.policy.specs.Rules.{form_of, linked, both}
use Rattle.role_record.specs.Record.{same_domain}
use Rattle.role_record.specs.RecordLaws.{table_ext}
use Rattle.sets.specs.MaskLaws.{mask_same, mask_wide}
use Rattle.sets.specs.SetLaws.{bit_mask}
use Rattle.sets.specs.Sets.{bit, mask_of}
use Rattle.sets.specs.Tests.{any, up_to}

-- ---- what the turns come to

module _ (distinct having kinds domains : List ℕ) where
  abbrev link_rel : (resources a b y x : ℕ) → Bool
  link_rel resources a b y x = any (λ k. bit (get_or having (64 * a + k) 0) y && bit (linked_to distinct having kinds resources a b k) x) (up_to (looked_at having domains a b))

  links_rel : (resources : ℕ) → links_by distinct having kinds domains resources ≡ rel_table 2304 (λ i x. link_rel resources (i / 64 / 6) (i / 64 % 6) (i % 64) x)
  unfolding links_by link_atom link_value
  links_rel resources =
      turned-all 2304 36 (link_atom distinct having kinds domains resources) (λ atom y x. link_rel resources (atom / 6) (atom % 6) y x)
      (λ atom f. turned-block 2304 atom (link_value distinct having kinds resources atom) (λ k. get_or having (64 * (atom / 6) + k) 0) (linked_to distinct having kinds resources (atom / 6) (atom % 6)) (λ k t. refl) (looked_at having domains (atom / 6) (atom % 6)) f)
      (λ i l. omega arith)

-- ---- the places of the attributes

module _ (values holders : List ℕ) (roles : ℕ) where
  -- the values at the places of the attributes
  user_valued : (a y : ℕ) → a < 6 → value_for values holders roles a y ≡ get_or values (64 * a + y) 0
  unfolding value_for
  user_valued a y h =
      let e : a % 7 ≡ a = omega arith in
      let d : a / 7 ≡ 0 = omega arith in
      let g : 6 * 0 + a ≡ a = omega arith in
      rw (e, d, lt-ltb a 6 h, g) refl

  resource_valued : (b x : ℕ) → b < 6 → value_for values holders roles (7 + b) x ≡ get_or values (64 * (6 + b) + x) 0
  unfolding value_for
  resource_valued b x h =
      let e : (7 + b) % 7 ≡ b = omega arith in
      let d : (7 + b) / 7 ≡ 1 = omega arith in
      rw (e, d, lt-ltb b 6 h) refl

module _ (known : List ℕ) (users resources : ℕ) where
  user-knows : (a y : ℕ) → a < 6 → bit (knowing users resources known a) y ≡ bit (get_or known a 0) y
  unfolding knowing
  user-knows a y h =
      let e : a % 7 ≡ a = omega arith in
      let d : a / 7 ≡ 0 = omega arith in
      let g : 6 * 0 + a ≡ a = omega arith in
      rw (e, d, lt-ltb a 6 h, g) refl

  resource-knows : (b x : ℕ) → b < 6 → bit (knowing users resources known (7 + b)) x ≡ bit (get_or known (6 + b) 0) x
  unfolding knowing
  resource-knows b x h =
      let e : (7 + b) % 7 ≡ b = omega arith in
      let d : (7 + b) / 7 ≡ 1 = omega arith in
      rw (e, d, lt-ltb b 6 h) refl

-- ---- the words

module _ (distinct having known kinds domains values : List ℕ) (valued : ℕ → ℕ → Bool) (value : ℕ → ℕ → ℕ) (R : Ranked distinct having valued value) where
  -- the word of an atom and a user
  link-word : (n a b y : ℕ) → n ≤ 64 → a < 6 → b < 6 → y < 64
      → ((z : ℕ) → valued a z ≡ bit (get_or known a 0) z) → ((z : ℕ) → valued (7 + b) z ≡ bit (get_or known (6 + b) 0) z)
      → ((z : ℕ) → value a z ≡ get_or values (64 * a + z) 0) → ((z : ℕ) → value (7 + b) z ≡ get_or values (64 * (6 + b) + z) 0)
      → mask_of 64 (link_rel distinct having kinds domains n a b y) ≡ link_word known values kinds domains n a b y
  unfolding link_word link_holds value_in form_in linked_to joins looked_at
  link-word n a b y hn ha hb hy ku kr eu er =
      mask_same 64 (link_rel distinct having kinds domains n a b y) (λ x. ltb x n && link_holds known values kinds domains a b y x) (λ x hx. by-domain x hx (same_domain domains a b)) ∙ sym (mask_wide n 64 (link_holds known values kinds domains a b y) hn)
    where
      joined : ℕ → ℕ → Bool
      joined = joins (bit (get_or kinds 0 0) a) (bit (get_or kinds 1 0) b) false

      parts : (s t r : Bool) (f : ℕ → ℕ → Bool) (v w : ℕ) → (r && (s && (t && f v w))) ≡ (r && both f (cond s (some v) none) (cond t (some w) none))
      parts true true r f v w = refl
      parts true false r f v w = refl
      parts false t r f v w = refl

      -- the user values that are looked at, of which all count if the domains are equal
      looked : (x m : ℕ) → Bool
      looked x m = any (λ k. bit (get_or having (64 * a + k) 0) y && bit (linked_to distinct having kinds n a b k) x) (up_to m)

      -- no form joins any two values
      unjoined : (u r : Option ℕ) → both (linked none) u r ≡ false
      unjoined none r = refl
      unjoined (some u) none = refl
      unjoined (some u) (some r) = refl

      at : (x : ℕ) → x < 64 → looked x (value_count having a) ≡ (ltb x n && both (linked (form_of (bit (get_or kinds 0 0) a) (bit (get_or kinds 1 0) b))) (value_in known values a y) (value_in known values (6 + b) x))
      at x hx =
          any-there (mask_of 64 (λ x. ltb x n)) (λ k. get_or having (64 * a + k) 0) (λ k. union_of distinct having (joined (get_or distinct (64 * a + k) 0)) (7 + b) (value_count having (7 + b))) y x hx (up_to (value_count having a))
          ∙ ap₂ ◌&&◌ (bit_mask 64 (λ x. ltb x n) x hx)
          (pairs-tested distinct having valued value R joined a (7 + b) y x (omega arith) (omega arith) hy hx
          ∙ ap₂ (λ (s t : Bool). s && (t && joined (value a y) (value (7 + b) x))) (ku y) (kr x)
          ∙ ap₂ (λ (v w : ℕ). bit (get_or known a 0) y && (bit (get_or known (6 + b) 0) x && joined v w)) (eu y) (er x))
          ∙ parts (bit (get_or known a 0) y) (bit (get_or known (6 + b) 0) x) (ltb x n) joined (get_or values (64 * a + y) 0) (get_or values (64 * (6 + b) + x) 0)

      by-domain : (x : ℕ) → x < 64 → (same : Bool) → looked x (cond same (value_count having a) 0) ≡ (ltb x n && both (linked (cond same (form_of (bit (get_or kinds 0 0) a) (bit (get_or kinds 1 0) b)) none)) (value_in known values a y) (value_in known values (6 + b) x))
      by-domain x hx true = at x hx
      by-domain x hx false = sym (ap (λ (c : Bool). ltb x n && c) (unjoined (value_in known values a y) (value_in known values (6 + b) x)) ∙ and-false (ltb x n))

pub links_means : (distinct having kinds domains known values holders : List ℕ) (users n roles : ℕ) (out : List ℕ) → n ≤ 64 → out ≡ links_by distinct having kinds domains n
    → distinct ≡ distinct_table known values holders users n roles → having ≡ having_table known values holders users n roles → out ≡ link_table known values kinds domains n
unfolding link_table
links_means distinct having kinds domains known values holders users n roles out hn e ed eh =
    e ∙ ap₂ (λ (d h : List ℕ). links_by d h kinds domains n) ed eh ∙ links_rel D H kinds domains n
    ∙ table_ext 2304 (λ i. mask_of 64 (link_rel D H kinds domains n (i / 64 / 6) (i / 64 % 6) (i % 64))) (λ i. link_word known values kinds domains n (i / 384) (i / 64 % 6) (i % 64))
    (λ i l. link-word D H known kinds domains values (valued_by known values holders users n roles) (value_for values holders roles) (tables_ranked known values holders users n roles) n (i / 64 / 6) (i / 64 % 6) (i % 64) hn (omega arith) (omega arith) (omega arith)
    (λ z. user-knows known users n (i / 64 / 6) z (omega arith)) (λ z. resource-knows known users n (i / 64 % 6) z (omega arith))
    (λ z. user_valued values holders roles (i / 64 / 6) z (omega arith)) (λ z. resource_valued values holders roles (i / 64 % 6) z (omega arith))
    ∙ ap (λ (a : ℕ). link_word known values kinds domains n a (i / 64 % 6) (i % 64)) (let q : i / 64 / 6 ≡ i / 384 = omega arith in q))
  where
    D : List ℕ
    D = distinct_table known values holders users n roles

    H : List ℕ
    H = having_table known values holders users n roles
