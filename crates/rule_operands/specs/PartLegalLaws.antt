-- A line 28 names a part: a role with a holder, and exactly one of its classes.
-- Assumes nothing.
use Rattle.std.specs.Prelude.{ℕ, ◌≤◌, ◌<◌, ltb, get_or, Bool, true, false, cond, ◌&&◌, ◌≡◌}
use borrow.Author.Tests.{eqb-true, eqb-false, eq-eqb, ne_eqb, ltb-true, ltb-false, lt-ltb}
use Rattle.std.proofs.Math.Dec.{eqb}
use Rattle.std.proofs.lemmas.Bool.{false≢true}
use Rattle.std.proofs.Math.Path.{refl, sym, ap, subst}
use Rattle.std.proofs.Common.{◌∙◌}
use native.Mathlib.Omega.{arith}
use Rattle.role_record.specs.Cells.{most_operations, permission_at}
use Rattle.role_record.specs.Record.{Sized, permission_table, record_with, record_of}
use Rattle.role_admit.specs.RoleTableLaws.{permitted_on, row-shown, holders-shown, holder-within}
use Rattle.files.specs.Beside.{beside_of}
use Rattle.files.specs.RuleFile.{legal, part}
use Rattle.rule_legal.specs.Operands.{part_legal}
use Rattle.grant_parts.specs.PartTableLaws.{class_shown}
use Rattle.grant_parts.specs.Parts.{class_row}
use Rattle.policy.proofs.ClassLaws.{PartFacts, part_facts}
use Rattle.policy.proofs.PartLaws.{alike-out, alike_in, parts_in}
use Rattle.policy.specs.Policy.{Policy, held, side_of, setting_of, roles_in}
use Rattle.policy.specs.Roles.{Part, alike, parts, class_of}
use Rattle.policy.specs.Rules.{user, resource}
use Rattle.policy.proofs.WrittenLaws.{mask_some}
use Rattle.sets.specs.Lowest.{lowest_from}
use Rattle.sets.specs.LowestLaws.{lowest_from-misses, lowest_from-some}
use Rattle.sets.specs.MaskLaws.{mask_none, least-most}
use Rattle.sets.specs.Sets.{bit, mask_of}
use Rattle.sets.specs.SetLaws.{bit_mask}
use Rattle.sets.specs.Tests.{Is, ◌is_in◌, any, up_to}
use Rattle.sets.specs.TestLaws.{and_in, and_l, and_r, never, test, fails, same, any_in, any_out, up_to_in, up_to-out}

-- a set that is not empty has a member
some-bit : (n : ℕ) (f : ℕ → Bool) → (mask_of n f ≡ 0 → ⊥) → (i : ℕ) × (i < n) × Is (f i)
some-bit n f h = test (any f (up_to n)) (λ e. let t = any_out f (up_to n) e in (t.0, up_to-out n t.1, t.2)) (λ e. absurd (h (mask_none n f (λ i l. fails (f i) λ k. never (any_in f (up_to_in l) k) e))))

module _ (F : Policy) (Z : Sized F) where
  -- the class of an operation, from the record's table
  class_here : (k o : ℕ) → k < 32 → o < most_operations → class_row (permission_table F) k F.operations o ≡ class_of (setting_of F) (roles_in F) (record { role = k; lead = o })
  unfolding record_of record_with
  class_here = class_shown F Z

  -- ---- a legal line names a part

  names-by : (k m low : ℕ) → ((q : ℕ) → q < low → bit m q ≡ false)
      → Is (cond (ltb k F.roles) (cond (eqb (get_or (record_of F).holders k 0) 0) false (cond (ltb low F.operations) (cond (eqb (get_or (permission_table F) (permission_at k low) 0) 0) false (eqb (class_row (permission_table F) k F.operations low) m)) false)) false)
      → Is (any (λ p. eqb k p.role && eqb m (class_of (setting_of F) (roles_in F) p)) (parts (setting_of F) (roles_in F)))
  unfolding class_of setting_of permitted_on roles_in side_of
  names-by k m low misses h = go (ltb k F.roles) refl (eqb (get_or (record_of F).holders k 0) 0) refl (ltb low F.operations) refl (eqb (get_or (permission_table F) (permission_at k low) 0) 0) refl h
    where
      part-there : k < F.roles → (get_or (record_of F).holders k 0 ≡ 0 → ⊥) → low < F.operations → (get_or (permission_table F) (permission_at k low) 0 ≡ 0 → ⊥) → class_row (permission_table F) k F.operations low ≡ m → record { role = k; lead = low } is_in parts (setting_of F) (roles_in F)
      part-there lk hh lo hp e =
          let n = Z.few in
          let j = Z.operable in
          let hk : k < 32 = omega arith in
          let ho : low < most_operations = omega arith in
          let someone = some-bit 64 (held F k) (λ z. hh (holders-shown F Z k hk ∙ z)) in
          let something = some-bit 64 (λ r. F.permitted k r low) (λ z. hp (row-shown F Z k low hk ho ∙ z)) in
          parts_in (setting_of F) (roles_in F) k low lk lo
          (any_in (λ u. (roles_in F).held k u) (up_to_in (holder-within F Z k someone.0 someone.2)) someone.2)
          (any_in (λ r. (roles_in F).gives k r low) (up_to_in (Z.permits k something.0 low something.2).1) something.2)
          (fails (any (λ q. alike (setting_of F) (roles_in F) k q low) (up_to low)) λ a.
          let t = any_out (λ q. alike (setting_of F) (roles_in F) k q low) (up_to low) a in
          let l = up_to-out low t.1 in
          let b = misses t.0 l in
          never (ap (λ (x : ℕ). bit x t.0) (sym e ∙ class_here k low hk ho) ∙ class_bit t.0 (omega arith) t.2) b)
        where
          class_bit : (q : ℕ) → q < F.operations → Is (alike (setting_of F) (roles_in F) k q low) → Is (bit (class_of (setting_of F) (roles_in F) (record { role = k; lead = low })) q)
          class_bit q l a = bit_mask F.operations (alike (setting_of F) (roles_in F) k low) q l ∙ alike_in (setting_of F) (roles_in F) k low q (λ r lr. sym (alike-out (setting_of F) (roles_in F) k q low r lr a))

      go : (b1 : Bool) → ltb k F.roles ≡ b1 → (b2 : Bool) → eqb (get_or (record_of F).holders k 0) 0 ≡ b2 → (b3 : Bool) → ltb low F.operations ≡ b3 → (b4 : Bool) → eqb (get_or (permission_table F) (permission_at k low) 0) 0 ≡ b4
          → Is (cond b1 (cond b2 false (cond b3 (cond b4 false (eqb (class_row (permission_table F) k F.operations low) m)) false)) false) → Is (any (λ p. eqb k p.role && eqb m (class_of (setting_of F) (roles_in F) p)) (parts (setting_of F) (roles_in F)))
      go true p false q true r false s h =
          let lk = ltb-true k F.roles p in
          let lo = ltb-true low F.operations r in
          let e = eqb-true (class_row (permission_table F) k F.operations low) m h in
          let n = Z.few in
          let j = Z.operable in
          any_in (λ p. eqb k p.role && eqb m (class_of (setting_of F) (roles_in F) p)) (part-there lk (eqb-false (get_or (record_of F).holders k 0) 0 q) lo (eqb-false (get_or (permission_table F) (permission_at k low) 0) 0 s) e)
          (and_in (eq-eqb k k refl) (eq-eqb m (class_of (setting_of F) (roles_in F) (record { role = k; lead = low })) (sym e ∙ class_here k low (omega arith) (omega arith))))
      go true p false q true r true s h = absurd (false≢true h)
      go true p false q false r b4 s h = absurd (false≢true h)
      go true p true q b3 r b4 s h = absurd (false≢true h)
      go false p b2 q b3 r b4 s h = absurd (false≢true h)

  names-there : (k m : ℕ) → Is (part_legal k m F.roles F.operations (record_of F).holders (permission_table F)) → Is (any (λ p. eqb k p.role && eqb m (class_of (setting_of F) (roles_in F) p)) (parts (setting_of F) (roles_in F)))
  unfolding part_legal
  names-there k m h = names-by k m (lowest_from (bit m) 0 64) (λ q l. lowest_from-misses (bit m) 0 64 q (omega arith) l) h

  -- ---- and the line of a part is legal

  -- the lowest operation of a class
  lead-lowest : (m low lead : ℕ) → Is (bit m lead) → ((q : ℕ) → q < lead → bit m q ≡ false) → low ≤ lead → Is (bit m low) → low ≡ lead
  lead-lowest m low lead p misses l q = test (ltb low lead) (λ e. never q (misses low (ltb-true low lead e))) (λ e. let n = ltb-false low lead e in omega arith)

  line-by : (k o m low : ℕ) → low ≡ o → k < F.roles → o < F.operations → (u : ℕ) × (u < (F.table user).count) × Is (held F k u) → (r : ℕ) × (r < (F.table resource).count) × Is (F.permitted k r o) → m ≡ class_of (setting_of F) (roles_in F) (record { role = k; lead = o })
      → Is (cond (ltb k F.roles) (cond (eqb (get_or (record_of F).holders k 0) 0) false (cond (ltb low F.operations) (cond (eqb (get_or (permission_table F) (permission_at k low) 0) 0) false (eqb (class_row (permission_table F) k F.operations low) m)) false)) false)
  unfolding permitted_on
  line-by k o m low e lk lo hu hr em =
      let n = Z.few in
      let j = Z.operable in
      let mu = Z.many user in
      let mr = Z.many resource in
      let hk : k < 32 = omega arith in
      let ho : o < most_operations = omega arith in
      let holders-some = mask_some 64 (held F k) hu.0 (omega (arith, hu.1)) hu.2 in
      let row-some = mask_some 64 (λ r. F.permitted k r o) hr.0 (omega (arith, hr.1)) hr.2 in
      rw (e, lt-ltb k F.roles lk, holders-shown F Z k hk, row-shown F Z k o hk ho, ne_eqb (mask_of 64 (held F k)) 0 (λ z. omega arith), lt-ltb o F.operations lo, ne_eqb (mask_of 64 (λ r. F.permitted k r o)) 0 (λ z. omega arith))
      (eq-eqb (class_row (permission_table F) k F.operations o) m (class_here k o hk ho ∙ sym em))

  line-there : (k m : ℕ) → Is (any (λ p. eqb k p.role && eqb m (class_of (setting_of F) (roles_in F) p)) (parts (setting_of F) (roles_in F))) → Is (part_legal k m F.roles F.operations (record_of F).holders (permission_table F))
  unfolding part_legal setting_of side_of roles_in
  line-there k m h =
      let t = any_out (λ p. eqb k p.role && eqb m (class_of (setting_of F) (roles_in F) p)) (parts (setting_of F) (roles_in F)) h in
      named t.0 t.1 (eqb-true k t.0.role (and_l (eqb k t.0.role) _ t.2)) (eqb-true m (class_of (setting_of F) (roles_in F) t.0) (and_r (eqb k t.0.role) _ t.2))
    where
      named : (p : Part) → p is_in parts (setting_of F) (roles_in F) → k ≡ p.role → m ≡ class_of (setting_of F) (roles_in F) p → Is (part_legal k m F.roles F.operations (record_of F).holders (permission_table F))
      named p i ek em =
          let t = part_facts (setting_of F) (roles_in F) i in
          rw (ek) (line-by p.role p.lead m (lowest_from (bit m) 0 64) (lowest-is p t em) t.in_roles t.in_slots t.someone t.something em)
        where
          lowest-is : (p : Part) → PartFacts (setting_of F) (roles_in F) p → m ≡ class_of (setting_of F) (roles_in F) p → lowest_from (bit m) 0 64 ≡ p.lead
          lowest-is p t em =
              let n = Z.operable in
              let l : p.lead < F.operations = t.in_slots in
              let has = subst (λ (x : ℕ). Is (bit x p.lead)) (sym em) t.class_has in
              lead-lowest m (lowest_from (bit m) 0 64) p.lead has (λ q lq. ap (λ (x : ℕ). bit x q) em ∙ t.class_lowest q lq) (least-most (bit m) 64 p.lead has) (lowest_from-some (bit m) 0 64 p.lead (omega arith) (omega arith) has)

  -- THE LAW
  pub part_means : (k m : ℕ) → part_legal k m F.roles F.operations (record_of F).holders (permission_table F) ≡ legal (beside_of F) (part k m)
  unfolding legal
  part_means k m = same (part_legal k m F.roles F.operations (record_of F).holders (permission_table F)) (any (λ p. eqb k p.role && eqb m (class_of (setting_of F) (roles_in F) p)) (parts (setting_of F) (roles_in F))) (names-there k m) (line-there k m)
