-- What a rule summed up grants is what its lines grant.
-- Assumes nothing.
use Rattle.std.specs.Prelude.{ℕ, ◌+◌, ◌*◌, ◌^◌, ◌<◌, length, Bool, true, false, ◌&&◌, [], ◌∷◌, ◌++◌, ◌≡◌, refl}
use borrow.Author.Tests.{eqb-true, eq-eqb, ltb-true, ltb-false}
use Rattle.std.proofs.Math.Dec.{ltb}
use Rattle.std.proofs.Math.ListN.{get_or}
use Rattle.std.proofs.Common.{pow_pos, ⊎_elim, sym, ◌∙◌}
use Rattle.std.proofs.lemmas.Bool.{false≢true}
use Rattle.std.proofs.Math.Bool.{and_assoc, and-false}
use mathlib.Core.List.Memᴰ
use Rattle.std.proofs.Math.Path.{ap, ap₂, subst}
use native.Mathlib.Omega.{arith}
use Rattle.rule_conjuncts.specs.Summary.{met_table, asked_places, is_atom, atom_places, met_by_all}
use Rattle.grant_links.specs.Linked.{linked_with}
use Rattle.files.specs.Beside.{beside_of}
use Rattle.files.specs.Calls.{is_triple}
use Rattle.files.proofs.LineLaws.{operations_or}
use Rattle.files.specs.RuleFile.{RuleCommand, Lines, link_of, operations_in, conjuncts_in, rule_in, legal, reshapes, opens, value, operations, link, part, level, ends}
use Rattle.grant_grids.proofs.LinkLaws.{link_means}
use Rattle.grant_grids.specs.Links.{links_of}
use Rattle.role_record.specs.Record.{Sized}
use Rattle.policy.specs.Policy.{Policy, side_of, setting_of, roles_in}
use Rattle.policy.specs.Rules.{Cond, attrs_of, holds, grants, at, user, resource, atom}
use Rattle.rule_grants.specs.RuleRows.{summary_grants}
use Rattle.rule_satisfaction.specs.Satisfaction.{Legal, asks}
use Rattle.rule_satisfaction.proofs.SatisfactionLaws.{legal-rest, conjuncts_ask, side-bit}
use Rattle.sets.specs.ListLaws.{all_append}
use Rattle.sets.specs.MaskLaws.{bit-out}
use Rattle.sets.specs.SetLaws.{bit_mask}
use Rattle.sets.specs.Sets.{narrowing, bit}
use Rattle.sets.specs.TestLaws.{and_l, and_r, test, same, imp_in, imp-out, all-out, all_in, any_in, any_out, each_in, each-out, up_to_in, up_to-out}
use Rattle.sets.specs.Tests.{Is, imp, ◌is_in◌, all, any, each, up_to}

module _ (F : Policy) (Z : Sized F) (ls : Lines) (h : Legal (beside_of F) ls) where
  -- ---- the atoms

  -- the line of an atom's number, and its attributes
  atom-line : (i : ℕ) (c : RuleCommand) → Is (is_atom i c) → (a : ℕ) × (b : ℕ) × (c ≡ link a b) × (i ≡ 6 * a + b)
  atom-line i reshapes q = absurd (false≢true q)
  atom-line i opens q = absurd (false≢true q)
  atom-line i (value w s a v) q = absurd (false≢true q)
  atom-line i (operations m) q = absurd (false≢true q)
  atom-line i (link a b) q = (a, b, refl, eqb-true i (6 * a + b) q)
  atom-line i (part k m) q = absurd (false≢true q)
  atom-line i (level x) q = absurd (false≢true q)
  atom-line i ends q = absurd (false≢true q)

  link-line : (d : Cond) (c : RuleCommand) → d is_in link_of c → (a : ℕ) × (b : ℕ) × (c ≡ link a b) × (d ≡ atom a b)
  link-line d reshapes m = absurd (Memᴰ.not-nil m)
  link-line d opens m = absurd (Memᴰ.not-nil m)
  link-line d (value w s a v) m = absurd (Memᴰ.not-nil m)
  link-line d (operations n) m = absurd (Memᴰ.not-nil m)
  link-line d (link a b) m = (a, b, refl, ⊎_elim (λ e. e) (λ k. absurd (Memᴰ.not-nil k)) (Memᴰ.cases_cons m))
  link-line d (part k n) m = absurd (Memᴰ.not-nil m)
  link-line d (level x) m = absurd (Memᴰ.not-nil m)
  link-line d ends m = absurd (Memᴰ.not-nil m)

  -- its attributes are declared
  link-declared : (a b : ℕ) → link a b is_in ls → (a < length (F.table user).kinds) × (b < length (F.table resource).kinds)
  unfolding legal setting_of side_of
  link-declared a b m =
      let q = h (link a b) m in
      (ltb-true a (length (F.table user).kinds) (and_l (ltb a (length (F.table user).kinds)) _ q), ltb-true b (length (F.table resource).kinds) (and_l (ltb b (length (F.table resource).kinds)) _ (and_r (ltb a (length (F.table user).kinds)) _ q)))

  abbrev linked_row : ℕ → ℕ → ℕ → Bool
  linked_row i u r = bit (get_or (links_of F) (64 * i + u) 0) r

  atoms-hold : (u r : ℕ) → u < (F.table user).count → r < (F.table resource).count
      → all (λ i. imp (bit (atom_places ls) i) (linked_row i u r)) (up_to 36) ≡ all (λ c. holds (setting_of F) c u r) (each link_of ls)
  unfolding atom_places
  atoms-hold u r hu hr = same (all (λ i. imp (bit (atom_places ls) i) (linked_row i u r)) (up_to 36)) (all (λ c. holds (setting_of F) c u r) (each link_of ls)) there back
    where
      there : Is (all (λ i. imp (bit (atom_places ls) i) (linked_row i u r)) (up_to 36)) → Is (all (λ c. holds (setting_of F) c u r) (each link_of ls))
      there q = all_in (λ c. holds (setting_of F) c u r) (each link_of ls) (λ d m.
          let t = each-out link_of ls m in
          let w = link-line d t.0 t.2 in
          let p = subst (λ c. c is_in ls) w.2 t.1 in
          let k = link-declared w.0 w.1 p in
          let ka = k.0 in
          let kb = k.1 in
          let nu = Z.declared user in
          let nr = Z.declared resource in
          let e = link_means F Z w.0 w.1 u r k.0 k.1 hu hr in
          let low : 6 * w.0 + w.1 < 36 = omega arith in
          subst (λ c. Is (holds (setting_of F) c u r)) (sym w.3)
          (sym e ∙ imp-out (linked_row (6 * w.0 + w.1) u r) (all-out (λ i. imp (bit (atom_places ls) i) (linked_row i u r)) q (up_to_in low))
          (bit_mask 36 (λ i. any (is_atom i) ls) (6 * w.0 + w.1) low ∙ any_in (is_atom (6 * w.0 + w.1)) p (eq-eqb (6 * w.0 + w.1) (6 * w.0 + w.1) refl))))

      back : Is (all (λ c. holds (setting_of F) c u r) (each link_of ls)) → Is (all (λ i. imp (bit (atom_places ls) i) (linked_row i u r)) (up_to 36))
      back q = all_in (λ i. imp (bit (atom_places ls) i) (linked_row i u r)) (up_to 36) (λ i m. imp_in (bit (atom_places ls) i) (linked_row i u r) (λ g.
          let l = up_to-out 36 m in
          let t = any_out (is_atom i) ls (sym (bit_mask 36 (λ i. any (is_atom i) ls) i l) ∙ g) in
          let w = atom-line i t.0 t.2 in
          let p = subst (λ c. c is_in ls) w.2 t.1 in
          let k = link-declared w.0 w.1 p in
          let e = link_means F Z w.0 w.1 u r k.0 k.1 hu hr in
          subst (λ (x : ℕ). Is (linked_row x u r)) (sym w.3) (e ∙ all-out (λ c. holds (setting_of F) c u r) q (each_in link_of p (Memᴰ.head refl)))))

  -- ---- the operations

  operand_low : (m : ℕ) → Is (legal (beside_of F) (operations m)) → m < 2 ^ F.operations
  unfolding legal setting_of
  operand_low m q = ltb-true m (2 ^ F.operations) (and_r (ltb 0 m) _ q)

  -- those of a rule are declared
  operations-low : (ms : Lines) → Legal (beside_of F) ms → operations_in ms < 2 ^ F.operations
  operations-low [] q = pow_pos F.operations
  operations-low (c ∷ ms) q = one c (operations_in ms) (q c (Memᴰ.head refl)) (operations-low ms (legal-rest (beside_of F) c ms q))
    where
      one : (c : RuleCommand) (n : ℕ) → Is (legal (beside_of F) c) → n < 2 ^ F.operations → operations_or c n < 2 ^ F.operations
      one reshapes n q l = l
      one opens n q l = l
      one (value w s a v) n q l = l
      one (operations m) n q l = operand_low m q
      one (link a b) n q l = l
      one (part k m) n q l = l
      one (level x) n q l = l
      one ends n q l = l

  operation-bit : (o : ℕ) → bit (operations_in ls) o ≡ (ltb o F.operations && bit (operations_in ls) o)
  operation-bit o = test (ltb o F.operations)
      (λ e. sym (ap (λ (b : Bool). b && bit (operations_in ls) o) e))
      (λ e. bit-out F.operations (operations_in ls) o (operations-low ls h) (ltb-false o F.operations e) ∙ sym (ap (λ (b : Bool). b && bit (operations_in ls) o) e))

  -- ---- together

  conditions : (u r : ℕ) → all (λ c. holds (setting_of F) c u r) (conjuncts_in (setting_of F) ls user ++ conjuncts_in (setting_of F) ls resource ++ each link_of ls)
      ≡ (all (asks F ls user u) (attrs_of ((setting_of F).side user) true) && (all (asks F ls resource r) (attrs_of ((setting_of F).side resource) true) && all (λ c. holds (setting_of F) c u r) (each link_of ls)))
  conditions u r =
      all_append (λ c. holds (setting_of F) c u r) (conjuncts_in (setting_of F) ls user ++ conjuncts_in (setting_of F) ls resource) (each link_of ls)
      ∙ ap (λ (b : Bool). b && all (λ c. holds (setting_of F) c u r) (each link_of ls)) (all_append (λ c. holds (setting_of F) c u r) (conjuncts_in (setting_of F) ls user) (conjuncts_in (setting_of F) ls resource) ∙ ap₂ ◌&&◌ (conjuncts_ask F ls user u r) (conjuncts_ask F ls resource u r))
      ∙ and_assoc (all (asks F ls user u) (attrs_of ((setting_of F).side user) true)) (all (asks F ls resource r) (attrs_of ((setting_of F).side resource) true)) (all (λ c. holds (setting_of F) c u r) (each link_of ls))

  linked-bit : (u r : ℕ) → r < 64
      → bit (linked_with (links_of F) (atom_places ls) u (met_by_all (met_table (setting_of F) ls) (asked_places (setting_of F) ls) 1 ((setting_of F).side resource).count)) r
      ≡ ((ltb r ((setting_of F).side resource).count && all (asks F ls resource r) (attrs_of ((setting_of F).side resource) true)) && all (λ i. imp (bit (atom_places ls) i) (linked_row i u r)) (up_to 36))
  unfolding linked_with
  linked-bit u r hr =
      bit_mask 64 (narrowing (met_by_all (met_table (setting_of F) ls) (asked_places (setting_of F) ls) 1 ((setting_of F).side resource).count) (bit (atom_places ls)) (λ i. get_or (links_of F) (64 * i + u) 0) 36) r hr
      ∙ ap (λ (b : Bool). b && all (λ i. imp (bit (atom_places ls) i) (linked_row i u r)) (up_to 36)) (side-bit F Z ls h 1 r (omega arith) hr)

  -- six tests in two orders: the last of them need agree only where the first two pass
  regrouped : (bo nu au nr ar at lo ct : Bool) → bo ≡ (lo && bo) → (Is nu → Is nr → at ≡ ct) → (bo && ((nu && au) && ((nr && ar) && at))) ≡ ((nu && (nr && lo)) && (bo && (au && (ar && ct))))
  regrouped false nu au nr ar at lo ct e g = sym (ap (λ (b : Bool). b) (and-false (nu && (nr && lo))))
  regrouped true false au nr ar at lo ct e g = refl
  regrouped true true au false ar at lo ct e g = and-false (au)
  regrouped true true au true ar at true ct e g = ap (λ (b : Bool). au && (ar && b)) (g refl refl)
  regrouped true true au true ar at false ct e g = absurd (false≢true (sym e))

  -- ---- THE LAW: the summary of a rule grants what the rule does, to those who are there
  pub summary_means : (u r o : ℕ) → u < 64 → r < 64
      → summary_grants (met_table (setting_of F) ls) (asked_places (setting_of F) ls) (atom_places ls) (operations_in ls) (links_of F) (F.table user).count (F.table resource).count u r o
      ≡ (is_triple (setting_of F) u r o && grants (setting_of F) (rule_in (setting_of F) ls) u r o)
  unfolding summary_grants is_triple grants rule_in setting_of side_of
  summary_means u r o hu hr =
      ap₂ (λ (x y : Bool). bit (operations_in ls) o && (x && y)) (side-bit F Z ls h 0 u (omega arith) hu) (linked-bit u r hr)
      ∙ regrouped (bit (operations_in ls) o) (ltb u (F.table user).count) (all (asks F ls user u) (attrs_of ((setting_of F).side user) true)) (ltb r (F.table resource).count) (all (asks F ls resource r) (attrs_of ((setting_of F).side resource) true)) (all (λ i. imp (bit (atom_places ls) i) (linked_row i u r)) (up_to 36)) (ltb o F.operations) (all (λ c. holds (setting_of F) c u r) (each link_of ls))
      (operation-bit o) (λ p q. atoms-hold u r (ltb-true u (F.table user).count p) (ltb-true r (F.table resource).count q))
      ∙ ap (λ (b : Bool). (ltb u (F.table user).count && (ltb r (F.table resource).count && ltb o F.operations)) && (bit (operations_in ls) o && b)) (sym (conditions u r))
