-- The parts that the tables list are the policy's, and so scratch memory is filled with all of them, each under its number; and the table of
-- starts says where the parts of each role begin.
-- Assumes nothing.
use Prim.Native.Nat.{ℕ, zero, suc, ◌+◌, ◌-◌, ◌%◌, ◌≤◌, ◌<◌}
use borrow.Author.Tests.{ltb-true, ltb-false}
use Rattle.std.specs.Prelude.{ltb, Bool, false, ◌&&◌, ◌≡◌, refl}
use Rattle.std.proofs.Math.ListN.{length, get_or, get_or-append}
use Rattle.std.proofs.Common.{length-append, sym, ◌∙◌}
use Rattle.std.proofs.Math.Bool.{not}
use mathlib.Core.List.{List, ◌++◌}
use Rattle.std.proofs.Math.Path.{ap, subst}
use native.Mathlib.Omega.{arith}
use Rattle.grant_parts.specs.Parts.{is_part_in}
use Rattle.grant_parts.specs.PartTableLaws.{part-shown}
use Rattle.mine_fill.specs.Fill.{leads_before, parts_before, StartsTo, part_words, FilledWith, FilledBy}
use Rattle.mine_fill.specs.FillLaws.{get_d_behind, parts_more, part-atoms, part-level}
use Rattle.mine_groups.specs.Scratch.{Started}
use Rattle.mine_pairs.specs.PairLevels.{group_level}
use Rattle.mine_parts.specs.Layout.{users_at, resources_at, operations_at, rest_at, name_in, name_of, role_at}
use Rattle.mine_parts.specs.LayoutLaws.{name_packed, name-low, named-so}
use Rattle.policy.specs.Mined.{part_count, part_at}
use Rattle.policy.specs.Policy.{Policy, setting_of, roles_in}
use Rattle.policy.specs.Roles.{Part, alike, is_part, leads, parts}
use Rattle.policy.specs.Rules.{user, resource}
use Rattle.role_record.specs.Cells.{most_operations}
use Rattle.role_record.specs.Record.{Sized, record_with, record_of}
use Rattle.sets.specs.ListLaws.{each_fewer, each_none, each_same, each_append, from_split}
use Rattle.sets.specs.Tests.{◌is_in◌, any, each, only, from, up_to}
use Rattle.sets.specs.TestLaws.{and_l, and_r, any_out, fails, each-out, only_out, up_to-out, get_d_in, test}

-- ---- the parts of the tables

module _ (holders permissions : List ℕ) (operations : ℕ) where
  abbrev before : ℕ → List Part
  before = parts_before holders permissions operations

  -- a part of a role has that role
  lead-role : (k o : ℕ) (p : Part) → p is_in leads_before holders permissions operations k o → p.role ≡ k
  unfolding leads_before
  lead-role k o p m =
      let t = each-out (λ q. only (is_part_in holders permissions operations k q) (record { role = k; lead = q })) (up_to o) m in
      ap (λ (x : Part). x.role) (only_out (is_part_in holders permissions operations k t.0) t.2).1

  lead_low : (k o : ℕ) (p : Part) → p is_in leads_before holders permissions operations k o → p.lead < o
  unfolding leads_before
  lead_low k o p m =
      let t = each-out (λ q. only (is_part_in holders permissions operations k q) (record { role = k; lead = q })) (up_to o) m in
      let e = ap (λ (x : Part). x.lead) (only_out (is_part_in holders permissions operations k t.0) t.2).1 in
      let l = up_to-out o t.1 in
      omega arith

  -- the parts of the roles before k stand before all others
  rest_of : (k m : ℕ) → (l : List Part) × (before (k + m) ≡ before k ++ l)
  unfolding parts_before
  rest_of k m = (each (λ j. leads_before holders permissions operations j operations) (from k m), ap (each (λ j. leads_before holders permissions operations j operations)) (from_split 0 k m ∙ ap (λ (x : ℕ). up_to k ++ from x m) zero_k) ∙ each_append (λ j. leads_before holders permissions operations j operations) (up_to k) (from k m))
    where
      zero_k : 0 + k ≡ k
      zero_k = omega arith

  starts-rise : (k m : ℕ) → length (before k) ≤ length (before (k + m))
  starts-rise k m = let r = rest_of k m in let e = ap length r.1 ∙ length-append (before k) r.0 in omega arith

  abbrev nobody : Part
  nobody = record { role = 0; lead = 0 }

  -- from the start of a role on and before that of the next stand its parts
  between : (i k m : ℕ) → length (before k) ≤ i → i < length (before (k + 1)) → get_or (before (k + 1 + m)) i nobody is_in leads_before holders permissions operations k operations
  between i k m a b =
      let l = leads_before holders permissions operations k operations in
      let r = rest_of (k + 1) m in
      let e = parts_more holders permissions operations k in
      let n = ap length e ∙ length-append (before k) l in
      let j : i ≡ length (before k) + (i - length (before k)) = omega arith in
      let here : get_or (before (k + 1 + m)) i nobody ≡ get_or l (i - length (before k)) nobody =
      ap (λ (x : List Part). get_or x i nobody) r.1 ∙ get_or-append (before (k + 1)) r.0 nobody i b
      ∙ ap (λ (x : List Part). get_or x i nobody) e ∙ ap (λ (x : ℕ). get_or (before k ++ l) x nobody) j ∙ get_d_behind (before k) l nobody (i - length (before k)) in
      rw here (get_d_in l nobody (i - length (before k)) (omega arith))

  -- every part has such a role
  found : (i n : ℕ) → i < length (before n) → (k : ℕ) × (k < n) × (length (before k) ≤ i) × (i < length (before (k + 1)))
  unfolding parts_before
  found i zero h = absurd (omega arith)
  found i (suc n) h = test (ltb i (length (before n)))
      (λ e. let r = found i n (ltb-true i (length (before n)) e) in (r.0, omega (arith, r.1), r.2, r.3))
      (λ e. let q : suc n ≡ n + 1 = omega arith in (n, omega arith, ltb-false i (length (before n)) e, subst (λ (x : ℕ). i < length (before x)) q h))

-- ---- they are those of the policy

module _ (F : Policy) (Z : Sized F) where
  abbrev tabled : ℕ → List Part
  tabled = parts_before (record_of F).holders (record_of F).permissions (record_of F).operations

  -- a role that is not there has no part
  no_role : (k o : ℕ) → F.roles ≤ k → is_part (setting_of F) (roles_in F) k o ≡ false
  unfolding is_part leads roles_in
  no_role k o h = fails (is_part (setting_of F) (roles_in F) k o) λ p.
      let someone = any (λ u. (roles_in F).held k u) (up_to ((setting_of F).side user).count) in
      let something = any (λ r. F.permitted k r o) (up_to ((setting_of F).side resource).count) in
      let first = not (any (λ q. alike (setting_of F) (roles_in F) k q o) (up_to o)) in
      let given = any_out (λ r. F.permitted k r o) (up_to ((setting_of F).side resource).count) (and_l something first (and_r someone (something && first) p)) in
      let l = (Z.permits k given.0 o given.2).0 in
      absurd (omega arith)

  -- THE LAW of the parts
  pub parts-tabled : parts_before (record_of F).holders (record_of F).permissions (record_of F).operations 32 ≡ parts (setting_of F) (roles_in F)
  unfolding parts_before leads_before parts record_of record_with setting_of roles_in
  parts-tabled =
      each_fewer (λ k. leads_before (record_of F).holders (record_of F).permissions F.operations k F.operations) F.roles 32 Z.few
      (λ k h l. each_none (λ o. only (is_part_in (record_of F).holders (record_of F).permissions F.operations k o) (record { role = k; lead = o })) (up_to F.operations) (λ o m. ap (λ (b : Bool). only b (record { role = k; lead = o })) (part-shown F Z k o l (up_to-out F.operations m) ∙ no_role k o h)))
      ∙ each_same (λ k. leads_before (record_of F).holders (record_of F).permissions F.operations k F.operations) (λ k. each (λ o. only (is_part (setting_of F) (roles_in F) k o) (record { role = k; lead = o })) (up_to F.operations)) 0 F.roles
      (λ k a b. each_same (λ o. only (is_part_in (record_of F).holders (record_of F).permissions F.operations k o) (record { role = k; lead = o })) (λ o. only (is_part (setting_of F) (roles_in F) k o) (record { role = k; lead = o })) 0 F.operations
      (λ o c d. let few = Z.few in ap (λ (x : Bool). only x (record { role = k; lead = o })) (part-shown F Z k o (omega arith) (omega arith))))

  -- their number, and each of them
  pub count-tabled : length (parts_before (record_of F).holders (record_of F).permissions (record_of F).operations 32) ≡ part_count (setting_of F) (roles_in F)
  unfolding part_count
  count-tabled = ap length parts-tabled

  pub part-tabled : (i : ℕ) → get_or (parts_before (record_of F).holders (record_of F).permissions (record_of F).operations 32) i (record { role = 0; lead = 0 }) ≡ part_at (setting_of F) (roles_in F) i
  unfolding part_at
  part-tabled i = ap (λ (l : List Part). get_or l i (record { role = 0; lead = 0 })) parts-tabled

-- ---- where the parts of each role stand

module _ (links matches known attributes holders permissions : List ℕ) (users resources operations : ℕ) (few : operations ≤ most_operations) (n : ℕ) (t starts : List ℕ) (e : n ≡ length (parts_before holders permissions operations 32))
    (f : FilledBy links matches known attributes holders permissions users resources operations t (parts_before holders permissions operations 32)) (s : StartsTo holders permissions operations starts 33) where
  abbrev count : ℕ → ℕ
  count k = length (parts_before holders permissions operations k)

  -- a part that is stored has its role in its name
  role-stored : (i k : ℕ) (p : Part) → k < 32 → p is_in leads_before holders permissions operations k operations → FilledWith links matches known attributes holders permissions users resources operations p i (users_at t i) (resources_at t i) (operations_at t i) (rest_at t i) → role_at t i ≡ k
  role-stored i k p h m w =
      let r = lead-role holders permissions operations k operations p m in
      let l = lead_low holders permissions operations k operations p m in
      let low : p.role < 32 = omega arith in
      let lead : p.lead < most_operations = omega arith in
      let W = part_words links attributes holders permissions operations p in
      let atoms = part-atoms links matches known attributes holders permissions users resources operations {W = W} p refl in
      let level = part-level links matches known attributes holders permissions users resources operations W refl in
      let name = ap name_in w.rest_in ∙ name_packed W.atoms (group_level links matches known attributes users resources operations W) (name_of p.role p.lead) i atoms level (name-low p.role p.lead low lead) in
      ap (λ (q : Part). q.role) (named-so p.role p.lead low lead t i name) ∙ r

  inside : (i k : ℕ) → k < 32 → get_or starts k 0 ≤ i → i < get_or starts (k + 1) 0 → (i < n) × (role_at t i ≡ k)
  inside i k h a b =
      let x = s k (omega arith) in
      let y = s (k + 1) (omega arith) in
      let rise = starts-rise holders permissions operations (k + 1) (32 - (k + 1)) in
      let z : k + 1 + (32 - (k + 1)) ≡ 32 = omega arith in
      let all = ap count z in
      let l : i < count 32 = omega arith in
      let m = subst (λ (j : ℕ). get_or (parts_before holders permissions operations j) i (record { role = 0; lead = 0 }) is_in leads_before holders permissions operations k operations) z (between holders permissions operations i k (32 - (k + 1)) (omega arith) (omega arith)) in
      (omega arith, role-stored i k (get_or (parts_before holders permissions operations 32) i (record { role = 0; lead = 0 })) h m (f i l))

  there : (i : ℕ) → (j : ℕ) × (j < 32) × (count j ≤ i) × (i < count (j + 1)) → (get_or starts (role_at t i) 0 ≤ i) × (i < get_or starts (role_at t i + 1) 0)
  there i (j, h, a, b) =
      let x = s j (omega arith) in
      let y = s (j + 1) (omega arith) in
      let z = (inside i j h (omega arith) (omega arith)).1 in
      subst (λ (m : ℕ). (get_or starts m 0 ≤ i) × (i < get_or starts (m + 1) 0)) (sym z) (omega arith, omega arith)

  -- a later role starts no earlier
  rise : (j k : ℕ) → j ≤ k → k ≤ 32 → get_or starts j 0 ≤ get_or starts k 0
  rise j k a b =
      let x = s j (omega arith) in
      let y = s k (omega arith) in
      let r = starts-rise holders permissions operations j (k - j) in
      let z : j + (k - j) ≡ k = omega arith in
      let e = ap count z in
      omega arith

  -- THE LAW of the starts
  pub starts-filled : Started n t starts
  starts-filled = record { between = inside; within = λ i h. there i (found holders permissions operations i 32 (omega arith)); rises = rise }

-- they stay where every part keeps its name
pub started_kept : {n : ℕ} {t u starts : List ℕ} → Started n t starts → ((i : ℕ) → i < n → name_in (rest_at u i) ≡ name_in (rest_at t i)) → Started n u starts
started_kept {n} {t} {u} {starts} S k = record {
  between = λ i r h a b. let o = S.between i r h a b in (o.0, role_kept i o.0 ∙ o.1);
  within = λ i h. subst (λ (m : ℕ). (get_or starts m 0 ≤ i) × (i < get_or starts (m + 1) 0)) (sym (role_kept i h)) (S.within i h);
  rises = S.rises;
}
  where
    role_kept : (i : ℕ) → i < n → role_at u i ≡ role_at t i
    role_kept i h = ap (λ (m : ℕ). m % 32) (k i h)
