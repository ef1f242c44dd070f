-- A part is known by its role and class: no two parts share both.
-- Assumes nothing.
use Rattle.std.specs.Prelude.{ℕ, zero, suc, ◌+◌, ◌*◌, ◌^◌, ◌≤◌, ◌<◌, ltb, false, List, ◌≡◌, refl}
use borrow.Author.Tests.{ltb-true, ltb-false, not-true}
use Rattle.std.proofs.Math.ListN.{length, get_or}
use Rattle.std.proofs.Math.Path.{sym, ap}
use Rattle.std.proofs.Common.{ap₂, ◌∙◌}
use Rattle.std.proofs.Math.Nat.{mul-le-mul_left, mul-suc}
use native.Mathlib.Omega.{arith}
use Rattle.policy.specs.Mined.{part_count, part_at}
use Rattle.policy.proofs.OrderLaws.{key}
use Rattle.policy.proofs.PartLaws.{alike-out, alike_in, parts_out}
use Rattle.policy.specs.Roles.{Roles, Part, alike, leads, is_part, parts, class_of}
use Rattle.policy.specs.Rules.{Setting, user, resource}
use Rattle.sets.specs.MaskLaws.{mask_lt}
use Rattle.sets.specs.Sets.{bit, mask_of}
use Rattle.sets.specs.SetLaws.{bit_mask}
use Rattle.sets.specs.Sorted.{Ascending, none_left, and-then}
use Rattle.sets.specs.SortedLaws.{each-rising, only-rising, from-rising}
use Rattle.sets.specs.Tests.{Is, ◌is_in◌, any, each, only, up_to}
use Rattle.sets.specs.TestLaws.{and_l, and_r, never, test, fails, any_in, any_out, each-out, only_out, up_to_in, up_to-out, get_d_in}

-- in an ascending list a later place has a higher number
pub asc_places : {A : Type 0} (key : A → ℕ) {l : List A} (d : A) → Ascending key l → (i j : ℕ) → i < j → j < length l → key (get_or l i d) < key (get_or l j d)
asc_places key d none_left i j h k = absurd (omega arith)
asc_places key d (and-then e r) i zero h k = absurd (omega arith)
asc_places key d (and-then {xs = xs} e r) zero (suc j) h k = e (get_or xs j d) (get_d_in xs d j (omega arith))
asc_places key d (and-then e r) (suc i) (suc j) h k = asc_places key d r i j (omega arith) (omega arith)

module _ (P : Setting) (R : Roles) where
  -- the order of parts as a number
  unfoldable part_key : Part → ℕ
  part_key p = P.slots * p.role + p.lead

  parts-ascending : Ascending part_key (parts P R)
  unfolding parts part_key
  parts-ascending =
      each-rising (λ k. each (λ o. only (is_part P R k o) (record { role = k; lead = o })) (up_to P.slots))
      (λ k. each-rising (λ o. only (is_part P R k o) (record { role = k; lead = o }))
      (λ o. only-rising (is_part P R k o) (record { role = k; lead = o }))
      (λ o q ma mb h x y mx my.
      let e = ap part_key (only_out (is_part P R k o) mx).1 in
      let d = ap part_key (only_out (is_part P R k q) my).1 in
      omega arith)
      (from-rising 0 P.slots))
      (λ k j ma mb h x y mx my.
      let s = each-out (λ o. only (is_part P R k o) (record { role = k; lead = o })) (up_to P.slots) mx in
      let t = each-out (λ o. only (is_part P R j o) (record { role = j; lead = o })) (up_to P.slots) my in
      let e = ap part_key (only_out (is_part P R k s.0) s.2).1 in
      let d = ap part_key (only_out (is_part P R j t.0) t.2).1 in
      let b = up_to-out P.slots s.1 in
      omega (arith, mul-suc P.slots k, mul-le-mul_left P.slots h))
      (from-rising 0 R.number)

  -- the role of a part does not fall with its number
  pub roles-rise : (p q : ℕ) → p < q → q < part_count P R → (part_at P R p).role ≤ (part_at P R q).role
  unfolding part_count part_at part_key
  roles-rise p q h l =
      let k = asc_places part_key (record { role = 0; lead = 0 }) parts-ascending p q h l in
      let b = (parts_out P R (get_d_in (parts P R) (record { role = 0; lead = 0 }) q l)).1 in
      no_higher (get_or (parts P R) p (record { role = 0; lead = 0 })) (get_or (parts P R) q (record { role = 0; lead = 0 })) k b
    where
      no_higher : (a b : Part) → P.slots * a.role + a.lead < P.slots * b.role + b.lead → b.lead < P.slots → a.role ≤ b.role
      no_higher a b k l =
          test (ltb b.role a.role)
          (λ e. absurd (omega (arith, mul-suc P.slots b.role, mul-le-mul_left P.slots (ltb-true b.role a.role e))))
          (λ e. ltb-false b.role a.role e)

  -- a part has one number
  pub part-number : (p q : ℕ) → p < part_count P R → q < part_count P R → part_at P R p ≡ part_at P R q → p ≡ q
  unfolding part_count part_at
  part-number p q lp lq e =
      test (ltb p q)
      (λ h. absurd (apart p q (ltb-true p q h) lq e))
      (λ h. test (ltb q p) (λ k. absurd (apart q p (ltb-true q p k) lp (sym e))) (λ k. let a = ltb-false p q h in let b = ltb-false q p k in omega arith))
    where
      apart : (i j : ℕ) → i < j → j < length (parts P R) → get_or (parts P R) i (record { role = 0; lead = 0 }) ≡ get_or (parts P R) j (record { role = 0; lead = 0 }) → ⊥
      apart i j h l e = let k = asc_places part_key (record { role = 0; lead = 0 }) parts-ascending i j h l in let d = ap part_key e in omega arith

  pub part_in : (p : ℕ) → p < part_count P R → part_at P R p is_in parts P R
  unfolding part_count part_at
  part_in p h = get_d_in (parts P R) (record { role = 0; lead = 0 }) p h

  -- the lowest operation of a class is known by the class
  lead_not_lower : (p q : Part) → p is_in parts P R → q is_in parts P R → p.role ≡ q.role → class_of P R p ≡ class_of P R q → p.lead < q.lead → ⊥
  unfolding class_of is_part leads
  lead_not_lower p q mp mq er ec h =
      let tp = parts_out P R mp in
      let tq = parts_out P R mq in
      let lq = and_r (any (λ u. R.held q.role u) (up_to (P.side user).count)) _ tq.2 in
      let none-lower = not-true (any (λ o. alike P R q.role o q.lead) (up_to q.lead)) (and_r (any (λ r. R.gives q.role r q.lead) (up_to (P.side resource).count)) _ lq) in
      let same_class : Is (bit (mask_of P.slots (alike P R p.role p.lead)) q.lead) =
      ap (λ (m : ℕ). bit m q.lead) ec ∙ bit_mask P.slots (alike P R q.role q.lead) q.lead tq.1 ∙ alike_in P R q.role q.lead q.lead (λ r l. refl) in
      let likes : Is (alike P R q.role p.lead q.lead) = rw (← er) (sym (bit_mask P.slots (alike P R p.role p.lead) q.lead tq.1) ∙ same_class) in
      never (any_in (λ o. alike P R q.role o q.lead) (up_to_in h) likes) none-lower

  pub class_part : (p q : Part) → p is_in parts P R → q is_in parts P R → p.role ≡ q.role → class_of P R p ≡ class_of P R q → p ≡ q
  class_part p q mp mq er ec =
      test (ltb p.lead q.lead)
      (λ h. absurd (lead_not_lower p q mp mq er ec (ltb-true p.lead q.lead h)))
      (λ h. test (ltb q.lead p.lead)
      (λ k. absurd (lead_not_lower q p mq mp (sym er) (sym ec) (ltb-true q.lead p.lead k)))
      (λ k. equal p q er (let a = ltb-false p.lead q.lead h in let b = ltb-false q.lead p.lead k in omega arith)))
    where
      equal : (p q : Part) → p.role ≡ q.role → p.lead ≡ q.lead → p ≡ q
      equal p q a b = ap₂ (λ (r l : ℕ). record { role = r; lead = l }) a b

  -- no two parts share a role and a class
  pub class_number : (p q : ℕ) → p < part_count P R → q < part_count P R → (part_at P R p).role ≡ (part_at P R q).role → class_of P R (part_at P R p) ≡ class_of P R (part_at P R q) → p ≡ q
  class_number p q lp lq er ec = part-number p q lp lq (class_part (part_at P R p) (part_at P R q) (part_in p lp) (part_in q lq) er ec)

  pub class_lt : (p : Part) → class_of P R p < 2 ^ P.slots
  unfolding class_of
  class_lt p = mask_lt P.slots (alike P R p.role p.lead)

  -- what a part says of itself
  pub record PartFacts (p : Part) : Type 0 where
    pub in_roles : p.role < R.number
    pub in_slots : p.lead < P.slots
    pub someone : (u : ℕ) × (u < (P.side user).count) × Is (R.held p.role u)
    pub something : (r : ℕ) × (r < (P.side resource).count) × Is (R.gives p.role r p.lead)
    -- its lowest operation is in its class, and no lower one
    pub class_has : Is (bit (class_of P R p) p.lead)
    pub class_lowest : (q : ℕ) → q < p.lead → bit (class_of P R p) q ≡ false

  pub part_facts : {p : Part} → p is_in parts P R → PartFacts p
  unfolding is_part leads class_of
  part_facts {p} m =
      let t = parts_out P R m in
      let hu = any_out (λ u. R.held p.role u) (up_to (P.side user).count) (and_l (any (λ u. R.held p.role u) (up_to (P.side user).count)) _ t.2) in
      let hl = and_r (any (λ u. R.held p.role u) (up_to (P.side user).count)) _ t.2 in
      let hr = any_out (λ r. R.gives p.role r p.lead) (up_to (P.side resource).count) (and_l (any (λ r. R.gives p.role r p.lead) (up_to (P.side resource).count)) _ hl) in
      let none-lower = not-true (any (λ o. alike P R p.role o p.lead) (up_to p.lead)) (and_r (any (λ r. R.gives p.role r p.lead) (up_to (P.side resource).count)) _ hl) in
      record {
        in_roles = t.0;
        in_slots = t.1;
        someone = (hu.0, up_to-out (P.side user).count hu.1, hu.2);
        something = (hr.0, up_to-out (P.side resource).count hr.1, hr.2);
        class_has = bit_mask P.slots (alike P R p.role p.lead) p.lead t.1 ∙ alike_in P R p.role p.lead p.lead (λ r l. refl);
        class_lowest = λ q l. let n = t.1 in
            fails (bit (mask_of P.slots (alike P R p.role p.lead)) q) λ h.
            never (any_in (λ o. alike P R p.role o p.lead) (up_to_in l) (alike_in P R p.role q p.lead (λ r lr. sym (alike-out P R p.role p.lead q r lr (sym (bit_mask P.slots (alike P R p.role p.lead) q (omega arith)) ∙ h))))) none-lower;
      }
