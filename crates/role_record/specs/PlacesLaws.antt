-- Which places are those of sets.
-- Assumes nothing.
use Rattle.std.specs.Prelude.{ℕ, ◌/◌, ◌%◌, ◌-◌, ◌<◌, eqb, ltb, get_or, Bool, true, false, List, ◌≡◌, refl}
use Rattle.std.proofs.Common.{eqb-true, eq-eqb, ne_eqb, ltb-true, ltb-false, arith}
use Rattle.std.proofs.lemmas.Bool.{eqb-false}
use Rattle.policy.specs.Policy.{Policy, kind_of, is_set_at, side_of, setting_of}
use Rattle.policy.specs.Rules.{own, user, resource}
use Rattle.role_record.specs.Places.{place_side, place_attribute, set_place}
use Rattle.role_record.specs.Record.{kind_table, record_with, record_of}
use Rattle.sets.specs.Sets.{bit}
use Rattle.sets.specs.SetLaws.{bit_mask}
use Rattle.sets.specs.TestLaws.{test}

-- the users' 255 is a set
pub set_own_user : (kinds : List ℕ) (i : ℕ) → i ≡ 6 → true ≡ set_place kinds i
unfolding set_place
set_own_user kinds i h = rw (eq-eqb i 6 h) refl

-- the resources' is not
pub set_own_resource : (kinds : List ℕ) (i : ℕ) → (i ≡ 6 → ⊥) → i ≡ 13 → false ≡ set_place kinds i
unfolding set_place
set_own_resource kinds i h e = rw (ne_eqb i 6 h, eq-eqb i 13 e) refl

-- and of the others the table of kinds says it
pub set-declared : (kinds : List ℕ) (i : ℕ) (b : Bool) → (i ≡ 6 → ⊥) → (i ≡ 13 → ⊥) → b ≡ bit (get_or kinds (i / 7) 0) (i % 7) → b ≡ set_place kinds i
unfolding set_place
set-declared kinds i b h k e = rw (ne_eqb i 6 h, ne_eqb i 13 k) e

-- the place is one of sets where the policy says so
pub set_means : (F : Policy) (i : ℕ) → i < 14 → set_place (record_of F).kinds i ≡ ((setting_of F).side (place_side i)).is_set (place_attribute i)
unfolding set_place record_of record_with kind_table setting_of side_of is_set_at
set_means F i hi = test (ltb i 7)
    (λ h. let l = ltb-true i 7 h in
    let e : i % 7 ≡ i = omega arith in
    let d : i / 7 ≡ 0 = omega arith in
    rw (h, e, d) (test (eqb i 6)
    (λ q. rw q refl)
    (λ q. rw (q, ne_eqb i 13 (λ z. omega arith), ne_eqb i own (λ z. omega arith)) (bit_mask 64 (kind_of (F.table user)) i (omega arith)))))
    (λ h. let l = ltb-false i 7 h in
    let e : i % 7 ≡ i - 7 = omega arith in
    let d : i / 7 ≡ 1 = omega arith in
    rw (h, e, d, ne_eqb i 6 (λ z. omega arith)) (test (eqb i 13)
    (λ q. let x = eqb-true i 13 q in rw (q, eq-eqb (i - 7) 6 (omega arith)) refl)
    (λ q. let x = eqb-false i 13 q in
    rw (q, ne_eqb (i - 7) 6 (λ z. omega arith), ne_eqb (i - 7) own (λ z. omega arith)) (bit_mask 64 (kind_of (F.table resource)) (i - 7) (omega arith)))))
