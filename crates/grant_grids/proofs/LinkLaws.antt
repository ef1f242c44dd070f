-- What the table of atoms says of a policy.
-- Assumes nothing.
use Rattle.std.specs.Prelude.{ℕ, ◌+◌, ◌*◌, ◌/◌, ◌%◌, ◌<◌, eqb, length, get_or, Bool, List, ◌≡◌}
use Rattle.std.proofs.Common.{lt-ltb, le-ltb, ne_eqb, ap, ◌∙◌}
use Rattle.std.proofs.Math.Bool.{cond}
use Rattle.std.proofs.Math.Option.{Option, none, some}
use Rattle.std.proofs.Math.Path.{refl, sym, ap₂}
use native.Mathlib.Omega.{arith}
use Rattle.role_record.specs.Record.{Sized, column_side, number_or, known_table, value_table, kind_table, domain_table, record_with, record_of}
use Rattle.grant_grids.specs.Links.{value_in, form_in, link_holds, link_word, link_table}
use Rattle.role_record.specs.RecordLaws.{table_get, domains_same}
use Rattle.policy.specs.Policy.{Policy, kind_of, is_set_at, value_at, side_of, setting_of}
use Rattle.policy.specs.Rules.{Which, Form, form_of, linked, both, holds, user, resource, atom, own}
use Rattle.sets.specs.Sets.{bit, mask_of}
use Rattle.sets.specs.SetLaws.{bit_mask}
use Rattle.sets.specs.Tests.{is_some}

-- ---- the table
-- what the table says of an atom, a user and a resource
pub links-bit : (known values kinds domains : List ℕ) (n a b u r : ℕ) → a < 6 → b < 6 → u < 64 → r < n
    → bit (get_or (link_table known values kinds domains n) (64 * (6 * a + b) + u) 0) r ≡ link_holds known values kinds domains a b u r
unfolding link_table link_word
links-bit known values kinds domains n a b u r ha hb hu hr =
    ap (λ (m : ℕ). bit m r) (table_get 2304 (λ i. link_word known values kinds domains n (i / 384) (i / 64 % 6) (i % 64)) (64 * (6 * a + b) + u) (omega arith) ∙ place (64 * (6 * a + b) + u) refl)
    ∙ bit_mask n (link_holds known values kinds domains a b u) r hr
  where
    place : (i : ℕ) → i ≡ 64 * (6 * a + b) + u → link_word known values kinds domains n (i / 384) (i / 64 % 6) (i % 64) ≡ link_word known values kinds domains n a b u
    place i e =
        let p : i / 384 ≡ a = omega arith in
        let q : i / 64 % 6 ≡ b = omega arith in
        let s : i % 64 ≡ u = omega arith in
        rw (p, q, s) refl

-- ---- THE LAW: the table of a policy's record says which atoms hold

module _ (F : Policy) where
  -- a known value is its number
  some_number : (o : Option ℕ) → cond (is_some o) (some (number_or o)) none ≡ o
  some_number none = refl
  some_number (some v) = refl

  column-value : (s x : ℕ) → s < 12 → x < 64 → value_in (known_table F) (value_table F) s x ≡ (F.table (column_side s)).value (s % 6) x
  unfolding value_in known_table value_table
  column-value s x hs hx =
      ap₂ (λ (k : Bool) (v : ℕ). cond k (some v) none)
      (ap (λ (m : ℕ). bit m x) (table_get 12 (λ s. mask_of 64 (λ y. is_some ((F.table (column_side s)).value (s % 6) y))) s hs) ∙ bit_mask 64 (λ y. is_some ((F.table (column_side s)).value (s % 6) y)) x hx)
      (table_get 768 (λ i. number_or ((F.table (column_side (i / 64))).value (i / 64 % 6) (i % 64))) (64 * s + x) (omega arith) ∙ place (64 * s + x) refl)
      ∙ some_number ((F.table (column_side s)).value (s % 6) x)
    where
      place : (i : ℕ) → i ≡ 64 * s + x → number_or ((F.table (column_side (i / 64))).value (i / 64 % 6) (i % 64)) ≡ number_or ((F.table (column_side s)).value (s % 6) x)
      place i e =
          let p : i / 64 ≡ s = omega arith in
          let q : i % 64 ≡ x = omega arith in
          rw (p, q) refl

  user-value : (a x : ℕ) → a < 6 → x < 64 → value_in (known_table F) (value_table F) a x ≡ (F.table user).value a x
  user-value a x ha hx =
      let p : a % 6 ≡ a = omega arith in
      column-value a x (omega arith) hx ∙ rw (lt-ltb a 6 ha, p) refl

  resource-value : (b x : ℕ) → b < 6 → x < 64 → value_in (known_table F) (value_table F) (6 + b) x ≡ (F.table resource).value b x
  resource-value b x hb hx =
      let p : (6 + b) % 6 ≡ b = omega arith in
      column-value (6 + b) x (omega arith) hx ∙ rw (le-ltb (6 + b) 6 (omega arith), p) refl

  form_means : (a b : ℕ) → a < 6 → b < 6 → form_in (kind_table F) (domain_table F) a b ≡ cond (eqb ((F.table user).domain a) ((F.table resource).domain b)) (form_of (kind_of (F.table user) a) (kind_of (F.table resource) b)) none
  unfolding form_in kind_table
  form_means a b ha hb =
      ap₂ (λ (c : Bool) (f : Option Form). cond c f none) (domains_same F a b ha hb)
      (ap₂ form_of (bit_mask 64 (kind_of (F.table user)) a (omega arith)) (bit_mask 64 (kind_of (F.table resource)) b (omega arith)))

  -- an attribute that is declared is not a 255
  declared_kind : (w : Which) (a : ℕ) → a < 6 → is_set_at F w a ≡ kind_of (F.table w) a
  unfolding is_set_at
  declared_kind w a h = rw (ne_eqb a own (omega arith)) refl

  declared-value : (w : Which) (a x : ℕ) → a < 6 → value_at F w a x ≡ (F.table w).value a x
  unfolding value_at
  declared-value w a x h = rw (ne_eqb a own (omega arith)) refl

  pub link_means : Sized F → (a b u r : ℕ) → a < length (F.table user).kinds → b < length (F.table resource).kinds → u < (F.table user).count → r < (F.table resource).count
      → bit (get_or (link_table (record_of F).known (record_of F).values (record_of F).kinds (record_of F).domains (record_of F).resources) (64 * (6 * a + b) + u) 0) r ≡ holds (setting_of F) (atom a b) u r
  unfolding record_of record_with holds setting_of side_of link_holds
  link_means Z a b u r la lb lu lr =
      let da = Z.declared user in
      let db = Z.declared resource in
      let mu = Z.many user in
      let mr = Z.many resource in
      links-bit (known_table F) (value_table F) (kind_table F) (domain_table F) (F.table resource).count a b u r (omega arith) (omega arith) (omega arith) lr
      ∙ parts (form_in (kind_table F) (domain_table F) a b) (value_in (known_table F) (value_table F) a u) (value_in (known_table F) (value_table F) (6 + b) r)
      (form_means a b (omega arith) (omega arith) ∙ sym (ap (λ (f : Option Form). cond (eqb ((F.table user).domain a) ((F.table resource).domain b)) f none) (ap₂ form_of (declared_kind user a (omega arith)) (declared_kind resource b (omega arith)))))
      (user-value a u (omega arith) (omega arith) ∙ sym (declared-value user a u (omega arith)))
      (resource-value b r (omega arith) (omega arith) ∙ sym (declared-value resource b r (omega arith)))
    where
      parts : (f : Option Form) (x y : Option ℕ) {f' : Option Form} {x' y' : Option ℕ} → f ≡ f' → x ≡ x' → y ≡ y' → both (linked f) x y ≡ both (linked f') x' y'
      parts f x y p q s = rw (p, q, s) refl
