-- What the code stores is the record with one assignment changed.
-- Assumes nothing.
use Rattle.std.specs.Prelude.{ℕ, ◌^◌, ◌<◌, eqb, length, get_or, set, Bool, true, false, cond, ◌&&◌, ◌||◌, not, List, ◌≡◌, refl}
use Rattle.std.proofs.Common.{eqb-true, length-set, get_or-set_same, get_or-set_other, sym, ap, ap₂, ◌∙◌, arith}
use Rattle.std.proofs.lemmas.Bool.{eqb-false}
use Rattle.files.specs.Edits.{Edit}
use Rattle.right_record.specs.Reassigned.{an_edit, assigned_as, record_as}
use Rattle.role_record.specs.Record.{table_of, set_assigned, set_derived}
use Rattle.role_record.specs.declared.RoleFile.{RoleFile}
use Rattle.role_seniority.specs.Closure.{held_table}
use Rattle.sets.specs.LoopLaws.{table-unique}
use Rattle.sets.specs.MaskLaws.{mask_same, mask_bits}
use Rattle.sets.specs.Sets.{bit, mask_of}
use Rattle.sets.specs.SetLaws.{bit_mask, bit-none}
use Rattle.sets.specs.TestLaws.{test}

-- a set with i in it; and without i
pub member_in : (m i v : ℕ) (gives : Bool) → gives ≡ true → v ≡ mask_of 64 (λ k. bit m k || eqb k i) → v ≡ mask_of 64 (λ k. cond (eqb k i) gives (bit m k))
member_in m i v gives h e = e ∙ mask_same 64 (λ k. bit m k || eqb k i) (λ k. cond (eqb k i) gives (bit m k)) (λ k l. rw h (go (eqb k i) (bit m k)))
  where
    go : (a b : Bool) → (b || a) ≡ cond a true b
    go true true = refl
    go true false = refl
    go false true = refl
    go false false = refl

pub member-out : (m i w v : ℕ) (gives : Bool) → gives ≡ false → w ≡ mask_of 64 (λ k. bit 0 k || eqb k i) → v ≡ mask_of 64 (λ k. bit m k && not (bit w k)) → v ≡ mask_of 64 (λ k. cond (eqb k i) gives (bit m k))
member-out m i w v gives h q e =
    e ∙ mask_same 64 (λ k. bit m k && not (bit w k)) (λ k. cond (eqb k i) gives (bit m k))
    (λ k l. ap (λ (b : Bool). bit m k && not b) (ap (λ (x : ℕ). bit x k) q ∙ bit_mask 64 (λ k. bit 0 k || eqb k i) k l ∙ ap (λ (b : Bool). b || eqb k i) (bit-none k)) ∙ rw h (go (eqb k i) (bit m k)))
  where
    go : (a b : Bool) → (b && not a) ≡ cond a false b
    go true true = refl
    go true false = refl
    go false true = refl
    go false false = refl

-- one word of the assignments stored
pub assigned-stored : (l : List ℕ) (gives : Bool) (role user v : ℕ) → length l ≡ 32 → ((i : ℕ) → get_or l i 0 < 2 ^ 64) → role < 32
    → v ≡ mask_of 64 (λ k. cond (eqb k user) gives (bit (get_or l role 0) k)) → set l role v ≡ assigned_as l (an_edit gives role user)
unfolding assigned_as table_of
assigned-stored l gives role user v e fits h q =
    table-unique 32 (set l role v) (λ k. mask_of 64 (λ u. cond (eqb k role && eqb u user) gives (bit (get_or l k 0) u))) (length-set l role v ∙ e)
    (λ k lk. test (eqb k role)
    (λ t. let d = eqb-true k role t in
    ap (λ (x : ℕ). get_or (set l role v) x 0) d ∙ get_or-set_same l role v 0 (omega (arith, e, h)) ∙ q
    ∙ mask_same 64 (λ u. cond (eqb u user) gives (bit (get_or l role 0) u)) (λ u. cond (eqb k role && eqb u user) gives (bit (get_or l k 0) u))
    (λ u lu. ap₂ (λ (b : Bool) (x : ℕ). cond (b && eqb u user) gives (bit (get_or l x 0) u)) (sym t) (sym d)))
    (λ t. get_or-set_other l role k v 0 (eqb-false k role t) ∙ mask_bits 64 (get_or l k 0) (fits k)
    ∙ mask_same 64 (bit (get_or l k 0)) (λ u. cond (eqb k role && eqb u user) gives (bit (get_or l k 0) u)) (λ u lu. ap (λ (b : Bool). cond (b && eqb u user) gives (bit (get_or l k 0) u)) (sym t))))

-- the record put together
pub record-stored : (f : RoleFile) (e : Edit) (assigned holders : List ℕ) → assigned ≡ assigned_as f.assigned e → holders ≡ held_table assigned f.seniors f.roles
    → set_derived (set_assigned f assigned) f.seniors holders ≡ record_as f e
unfolding record_as
record-stored f e assigned holders p q = rw (q, p) refl
