-- Roles, and their parts: a role's operations with equal, non-empty sets of resources form one class.
-- Assumes nothing.
use Rattle.std.specs.Prelude.{ℕ, ◌+◌, ◌≤◌, ◌<◌, Bool, true, false, ◌&&◌, List, [], ◌∷◌, ◌≡◌, refl}
use mathlib.Core.List.Memᴰ
use Rattle.std.proofs.Math.Path.{ap}
use Rattle.std.proofs.Common.{◌∙◌}
use native.Mathlib.Omega.{arith}
use Rattle.policy.proofs.CoverLaws.{exact-fits}
use Rattle.policy.specs.Covering.{fits}
use Rattle.policy.specs.Roles.{Roles, Part, alike, leads, is_part, parts, block_of, roles_grant, some_role_gives}
use Rattle.policy.proofs.RuleLaws.{Lawful}
use Rattle.policy.specs.Rules.{own, Setting, Rule, meets, attrs_of, holds, grants, allowed, at, Triple, NotEmpty, Same, user, resource, conjunct}
use Rattle.sets.specs.Lowest.{lowest_from}
use Rattle.sets.specs.LowestLaws.{lowest_from-misses, lowest_from-passes, lowest_from-most}
use Rattle.sets.specs.Sets.{mask_of}
use Rattle.sets.specs.SetLaws.{bit_mask}
use Rattle.sets.specs.Tests.{Is, iff, ◌is_in◌, any, keep, each, only, up_to, elem}
use Rattle.sets.specs.TestLaws.{and_in, and_l, and_r, never, fails, same, iff_in, iff-out, all-out, all_in, any_in, any_out, keep_in, keep_out, each_in, each-out, only_in, only_out, up_to_in, up_to-out, elem_in, elem_out, not_in}

shuffle : (a b c : Bool) → (a && (b && (c && true))) ≡ (b && (c && a))
shuffle true true true = refl
shuffle true true false = refl
shuffle true false c = refl
shuffle false true true = refl
shuffle false true false = refl
shuffle false false c = refl

elem-keep : (f : ℕ → Bool) (n r : ℕ) → r < n → elem r (keep f (up_to n)) ≡ f r
elem-keep f n r l = same (elem r (keep f (up_to n))) (f r) (λ h. (keep_out f (up_to n) (elem_out r (keep f (up_to n)) h)).1) (λ h. elem_in (keep_in f (up_to_in l) h))

module _ (P : Setting) (R : Roles) where
  pub alike-out : (k o q r : ℕ) → r < (P.side resource).count → Is (alike P R k o q) → R.gives k r o ≡ R.gives k r q
  unfolding alike
  alike-out k o q r l h = iff-out _ _ (all-out (λ r. iff (R.gives k r o) (R.gives k r q)) h (up_to_in l))

  pub alike_in : (k o q : ℕ) → ((r : ℕ) → r < (P.side resource).count → R.gives k r o ≡ R.gives k r q) → Is (alike P R k o q)
  unfolding alike
  alike_in k o q h = all_in _ _ λ r m. iff_in _ _ (h r (up_to-out _ m))

  -- the part that a permission falls into
  module _ (k u r o : ℕ) (t : Triple P u r o) (lk : k < R.number) (hu : Is (R.held k u)) (ho : Is (R.gives k r o)) where
    first : ℕ
    first = lowest_from (λ q. alike P R k q o) 0 o

    first_alike : Is (alike P R k first o)
    unfolding first
    first_alike = lowest_from-passes (λ q. alike P R k q o) 0 o (alike_in k (0 + o) o (λ r l. ap (R.gives k r) (omega arith)))

    first-most : first ≤ o
    unfolding first
    first-most = let h = lowest_from-most (λ q. alike P R k q o) 0 o in omega arith

    first_gives : Is (R.gives k r first)
    first_gives = rw (alike-out k first o r t.resource first_alike) ho

    first-leads : Is (leads P R k first)
    unfolding leads first
    first-leads =
        and_in (any_in (λ r. R.gives k r first) (up_to_in t.resource) first_gives)
        (not_in _ (fails _ λ h.
        let s = any_out (λ q. alike P R k q first) (up_to first) h in
        let l = up_to-out first s.1 in
        let e = lowest_from-misses (λ q. alike P R k q o) 0 o s.0 (omega arith) l in
        never (alike_in k s.0 o (λ r lr. alike-out k s.0 first r lr s.2 ∙ alike-out k first o r lr first_alike)) e))

    first_part : record { role = k; lead = first } is_in parts P R
    unfolding parts is_part
    first_part =
        let l = first-most in
        let b = t.op in
        each_in (λ k. each (λ o. only (is_part P R k o) (record { role = k; lead = o })) (up_to P.slots)) (up_to_in lk)
        (each_in (λ o. only (is_part P R k o) (record { role = k; lead = o })) (up_to_in {n = P.slots} {i = first} (omega arith))
        (only_in _ (and_in (any_in (λ u. R.held k u) (up_to_in t.user) hu) first-leads)))

  pub parts_out : {p : Part} → p is_in parts P R → (p.role < R.number) × (p.lead < P.slots) × Is (is_part P R p.role p.lead)
  unfolding parts
  parts_out {p} m =
      let t = each-out (λ k. each (λ o. only (is_part P R k o) (record { role = k; lead = o })) (up_to P.slots)) (up_to R.number) m in
      let s = each-out (λ o. only (is_part P R t.0 o) (record { role = t.0; lead = o })) (up_to P.slots) t.2 in
      let q = only_out (is_part P R t.0 s.0) s.2 in
      rw q.1 (up_to-out R.number t.1, up_to-out P.slots s.1, q.0)

  -- a role with a holder and the lowest operation of a class of it make a part
  pub parts_in : (k o : ℕ) → k < R.number → o < P.slots → Is (any (λ u. R.held k u) (up_to (P.side user).count)) → Is (any (λ r. R.gives k r o) (up_to (P.side resource).count)) → any (λ q. alike P R k q o) (up_to o) ≡ false → record { role = k; lead = o } is_in parts P R
  unfolding parts is_part leads
  parts_in k o lk lo hu hr hn =
      each_in (λ k. each (λ o. only (is_part P R k o) (record { role = k; lead = o })) (up_to P.slots)) (up_to_in lk)
      (each_in (λ o. only (is_part P R k o) (record { role = k; lead = o })) (up_to_in lo) (only_in _ (and_in hu (and_in hr (not_in (any (λ q. alike P R k q o) (up_to o)) hn)))))

  -- the union of the parts' blocks is what the roles that a user holds are assigned
  pub roles-grant : (u r o : ℕ) → Triple P u r o → roles_grant P R u r o ≡ some_role_gives P R u r o
  unfolding roles_grant some_role_gives block_of
  roles-grant u r o t =
      same (any (λ p. block_of P R p u r o) (parts P R)) (some_role_gives P R u r o)
      (λ h. let s = any_out (λ p. block_of P R p u r o) (parts P R) h in
      let p = s.0 in
      let hu = and_l (R.held p.role u) _ s.2 in
      let h2 = and_r (R.held p.role u) _ s.2 in
      let hg = and_l (R.gives p.role r p.lead) _ h2 in
      let ha = and_r (R.gives p.role r p.lead) _ h2 in
      any_in (λ k. R.held k u && R.gives k r o) (up_to_in (parts_out s.1).0) (and_in hu (rw (← alike-out p.role p.lead o r t.resource ha) hg)))
      (λ h. let s = any_out (λ k. R.held k u && R.gives k r o) (up_to R.number) h in
      let k = s.0 in
      let lk = up_to-out R.number s.1 in
      let hu = and_l (R.held k u) _ s.2 in
      let ho = and_r (R.held k u) _ s.2 in
      any_in (λ p. block_of P R p u r o) (first_part k u r o t lk hu ho) (and_in hu (and_in (first_gives k u r o t lk hu ho) (first_alike k u r o t lk hu ho))))

  -- a part's block is not empty
  pub part-some : {p : Part} → p is_in parts P R → NotEmpty P (block_of P R p)
  unfolding is_part leads block_of
  part-some {p} m =
      let t = parts_out m in
      let hu = any_out (λ u. R.held p.role u) (up_to (P.side user).count) (and_l (any (λ u. R.held p.role u) (up_to (P.side user).count)) _ t.2) in
      let hl = and_r (any (λ u. R.held p.role u) (up_to (P.side user).count)) _ t.2 in
      let hr = any_out (λ r. R.gives p.role r p.lead) (up_to (P.side resource).count) (and_l (any (λ r. R.gives p.role r p.lead) (up_to (P.side resource).count)) _ hl) in
      record {
        u = hu.0;
        r = hr.0;
        o = p.lead;
        triple = record { user = up_to-out (P.side user).count hu.1; resource = up_to-out (P.side resource).count hr.1; op = t.1 };
        inside = and_in hu.2 (and_in hr.2 (alike_in p.role p.lead p.lead (λ r l. refl)));
      }

  -- what the attributes 255 are: a set of one role lies in somebody's value where they hold it; a resource's value is its own
  pub record Own : Type 0 where
    pub one-role : ℕ → ℕ
    pub users : (k u : ℕ) → k < R.number → u < (P.side user).count → meets (P.side user) own (one-role k ∷ []) u ≡ R.held k u
    pub resources : (vs : List ℕ) (r : ℕ) → r < (P.side resource).count → meets (P.side resource) own vs r ≡ elem r vs

  module _ (L : Lawful P) (O : Own) where
    -- the rule of both 255s for a part
    own_rule : Part → Rule
    own_rule p = record { ops = mask_of P.slots (alike P R p.role p.lead); conds = conjunct user own (O.one-role p.role ∷ []) ∷ conjunct resource own (keep (λ r. R.gives p.role r p.lead) (up_to (P.side resource).count)) ∷ [] }

    own_rule-at : (p : Part) → Is (at P 3 (own_rule p))
    unfolding at allowed own_rule attrs_of
    own_rule-at p =
        and_in (elem_in (Memᴰ.append_right (up_to (P.side user).attrs) (Memᴰ.head refl)))
        (and_in (elem_in (Memᴰ.append_right (up_to (P.side resource).attrs) (Memᴰ.head refl))) refl)

    own_rule-exact : (p : Part) → p.role < R.number → Same P (grants P (own_rule p)) (block_of P R p)
    unfolding grants own_rule holds block_of
    own_rule-exact p l u r o t =
        rw (bit_mask P.slots (alike P R p.role p.lead) o t.op, O.users p.role u l t.user, O.resources (keep (λ r. R.gives p.role r p.lead) (up_to (P.side resource).count)) r t.resource, elem-keep (λ r. R.gives p.role r p.lead) (P.side resource).count r t.resource)
        (shuffle (alike P R p.role p.lead o) (R.held p.role u) (R.gives p.role r p.lead))

    -- a part fits level 3
    pub part-fits : (p : Part) → p is_in parts P R → Is (fits P (block_of P R p) 3)
    part-fits p m = exact-fits P L (block_of P R p) 3 (own_rule p) (own_rule-at p) (own_rule-exact p (parts_out m).0)
