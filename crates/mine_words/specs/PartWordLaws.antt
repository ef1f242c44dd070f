-- What the record's tables give for a part is its words.
-- Assumes nothing.
use Prim.Native.Nat.{ℕ, ◌+◌, ◌*◌, ◌/◌, ◌%◌, ◌≤◌, ◌<◌}
use Rattle.std.proofs.Common.{ltb-true, lt-ltb, sym, ◌∙◌}
use Rattle.std.proofs.Math.Dec.{ltb}
use Rattle.std.proofs.Math.ListN.{get_or}
use Rattle.std.specs.Prelude.{Bool, ◌&&◌, ◌≡◌}
use Rattle.std.proofs.Math.Path.{refl, ap, ap₂}
use native.Mathlib.Omega.{arith}
use Rattle.role_record.specs.Cells.{most_operations, permission_at}
use Rattle.role_record.specs.Record.{Sized, attribute_table, record_with, record_of}
use Rattle.role_record.specs.RecordLaws.{side-room}
use Rattle.role_admit.specs.RoleTableLaws.{permitted_on, row-shown, holders-shown, holder-within}
use Rattle.grant_parts.specs.PartTableLaws.{part-role, part-lead, class_shown}
use Rattle.grant_grids.proofs.LinkLaws.{link_means}
use Rattle.grant_grids.specs.Links.{links_of}
use Rattle.mine_words.specs.PartWords.{true_of_all, is_atom_of, atoms_of}
use Rattle.grant_parts.specs.Parts.{class_row}
use Rattle.policy.specs.Policy.{Policy, held, side_of, setting_of, roles_in}
use Rattle.policy.specs.Roles.{Part, parts, block_of}
use Rattle.policy.specs.Rules.{holds, user, resource, atom}
use Rattle.sets.specs.MaskLaws.{bit-mask_of, mask_same, mask_wide}
use Rattle.sets.specs.Sets.{bit, subset, mask_of}
use Rattle.sets.specs.SetLaws.{subset-out, subset_in, bit_mask}
use Rattle.sets.specs.Tests.{Is, imp, ◌is_in◌, all, up_to}
use Rattle.sets.specs.TestLaws.{and_in, and_l, and_r, same, imp_in, imp-out, all-out, all_in, up_to_in, up_to-out, and_third}
use Rattle.mine_theory.proofs.Words.WordLaws.{part-words, words_same}
use Rattle.mine_theory.specs.Words.Words.{Words, words_of, part_atom}

-- the words that the tables give for a part
abbrev pub table_words : Policy → Part → Words
table_words F p = record {
  users = get_or (record_of F).holders p.role 0;
  resources = get_or (record_of F).permissions (permission_at p.role p.lead) 0;
  ops = class_row (record_of F).permissions p.role (record_of F).operations p.lead;
  atoms = atoms_of (links_of F) (record_of F).attributes (get_or (record_of F).holders p.role 0) (get_or (record_of F).permissions (permission_at p.role p.lead) 0);
}

-- a set of 64 that has only numbers below n
narrower : (n : ℕ) (f : ℕ → Bool) → n ≤ 64 → ((x : ℕ) → Is (f x) → x < n) → mask_of 64 f ≡ mask_of n f
narrower n f l h =
    mask_same 64 f (λ i. ltb i n && f i) (λ i k. same (f i) (ltb i n && f i) (λ p. and_in (lt-ltb i n (h i p)) p) (λ p. and_r (ltb i n) (f i) p))
    ∙ sym (mask_wide n 64 f l)

-- two sets joined by rows: each row of the one has all of the other where all pairs pass
pairs-joined : (n m : ℕ) (f g : ℕ → Bool) (row : ℕ → ℕ) (h : ℕ → ℕ → Bool) → n ≤ 64 → ((u r : ℕ) → u < n → r < m → bit (row u) r ≡ h u r)
    → all (λ u. imp (bit (mask_of n f) u) (subset (mask_of m g) (row u))) (up_to 64) ≡ all (λ u. all (λ r. imp (f u && g r) (h u r)) (up_to m)) (up_to n)
pairs-joined n m f g row h l e = same (all (λ u. imp (bit (mask_of n f) u) (subset (mask_of m g) (row u))) (up_to 64)) (all (λ u. all (λ r. imp (f u && g r) (h u r)) (up_to m)) (up_to n)) there back
  where
    there : Is (all (λ u. imp (bit (mask_of n f) u) (subset (mask_of m g) (row u))) (up_to 64)) → Is (all (λ u. all (λ r. imp (f u && g r) (h u r)) (up_to m)) (up_to n))
    there q = all_in (λ u. all (λ r. imp (f u && g r) (h u r)) (up_to m)) (up_to n) λ u i. all_in (λ r. imp (f u && g r) (h u r)) (up_to m) λ r j. imp_in (f u && g r) (h u r) λ b.
        let lu = up_to-out n i in
        let lr = up_to-out m j in
        sym (e u r lu lr)
        ∙ subset-out (mask_of m g) (row u) (imp-out (subset (mask_of m g) (row u)) (all-out (λ u. imp (bit (mask_of n f) u) (subset (mask_of m g) (row u))) q (up_to_in {n = 64} {i = u} (omega arith))) (bit_mask n f u lu ∙ and_l (f u) (g r) b)) r
        (bit_mask m g r lr ∙ and_r (f u) (g r) b)

    back : Is (all (λ u. all (λ r. imp (f u && g r) (h u r)) (up_to m)) (up_to n)) → Is (all (λ u. imp (bit (mask_of n f) u) (subset (mask_of m g) (row u))) (up_to 64))
    back q = all_in (λ u. imp (bit (mask_of n f) u) (subset (mask_of m g) (row u))) (up_to 64) λ u i. imp_in (bit (mask_of n f) u) (subset (mask_of m g) (row u)) λ b. subset_in (mask_of m g) (row u) λ r d.
        let bu = sym (bit-mask_of n f u) ∙ b in
        let br = sym (bit-mask_of m g r) ∙ d in
        let lu = ltb-true u n (and_l (ltb u n) (f u) bu) in
        let lr = ltb-true r m (and_l (ltb r m) (g r) br) in
        e u r lu lr ∙ imp-out (h u r) (all-out (λ r. imp (f u && g r) (h u r)) (all-out (λ u. all (λ r. imp (f u && g r) (h u r)) (up_to m)) q (up_to_in lu)) (up_to_in lr)) (and_in (and_r (ltb u n) (f u) bu) (and_r (ltb r m) (g r) br))

module _ (F : Policy) (Z : Sized F) where
  -- how many attributes are declared
  user-attributes : get_or (record_of F).attributes 0 0 ≡ ((setting_of F).side user).attrs
  unfolding record_of record_with attribute_table setting_of side_of
  user-attributes = refl

  resource-attributes : get_or (record_of F).attributes 1 0 ≡ ((setting_of F).side resource).attrs
  unfolding record_of record_with attribute_table setting_of side_of
  resource-attributes = refl

  -- the users of a part: its holders
  pub holders-word : (k : ℕ) → k < 32 → get_or (record_of F).holders k 0 ≡ mask_of ((setting_of F).side user).count ((roles_in F).held k)
  unfolding setting_of side_of roles_in
  holders-word k h = holders-shown F Z k h ∙ narrower (F.table user).count (held F k) (Z.many user) (holder-within F Z k)

  -- its resources
  pub resources-word : (k o : ℕ) → k < 32 → o < most_operations → get_or (record_of F).permissions (permission_at k o) 0 ≡ mask_of ((setting_of F).side resource).count (λ r. (roles_in F).gives k r o)
  unfolding record_of record_with permitted_on setting_of side_of roles_in
  resources-word k o hk ho = row-shown F Z k o hk ho ∙ narrower (F.table resource).count (λ r. F.permitted k r o) (Z.many resource) (λ r p. (Z.permits k r o p).1)

  -- ---- its atoms

  -- what the table says of an atom by its number
  link-shown : (i u r : ℕ) → i / 6 < ((setting_of F).side user).attrs → i % 6 < ((setting_of F).side resource).attrs → u < ((setting_of F).side user).count → r < ((setting_of F).side resource).count
      → bit (get_or (links_of F) (64 * i + u) 0) r ≡ holds (setting_of F) (atom (i / 6) (i % 6)) u r
  unfolding setting_of side_of
  link-shown i u r ha hb hu hr =
      let e : 64 * i + u ≡ 64 * (6 * (i / 6) + i % 6) + u = omega arith in
      ap (λ (k : ℕ). bit (get_or (links_of F) k 0) r) e ∙ link_means F Z (i / 6) (i % 6) u r ha hb hu hr

  atoms-shown : (p : Part)
      → atoms_of (links_of F) (record_of F).attributes (mask_of ((setting_of F).side user).count ((roles_in F).held p.role)) (mask_of ((setting_of F).side resource).count (λ r. (roles_in F).gives p.role r p.lead))
      ≡ mask_of 36 (λ i. part_atom (setting_of F) (roles_in F) p (i / 6) (i % 6))
  unfolding atoms_of is_atom_of part_atom true_of_all
  atoms-shown p =
      mask_same 36 (is_atom_of (links_of F) (record_of F).attributes users resources) (λ i. part_atom (setting_of F) (roles_in F) p (i / 6) (i % 6))
      (λ i hi. ap₂ (λ (n m : ℕ). ltb (i / 6) n && (ltb (i % 6) m && true_of_all (links_of F) i users resources)) (user-attributes) (resource-attributes)
      ∙ and_third (ltb (i / 6) ((setting_of F).side user).attrs) (ltb (i % 6) ((setting_of F).side resource).attrs) _ _
      (λ a b. pairs-joined ((setting_of F).side user).count ((setting_of F).side resource).count ((roles_in F).held p.role) (λ r. (roles_in F).gives p.role r p.lead) (λ u. get_or (links_of F) (64 * i + u) 0) (holds (setting_of F) (atom (i / 6) (i % 6))) (side-room F Z user)
      (λ u r. link-shown i u r (ltb-true (i / 6) ((setting_of F).side user).attrs a) (ltb-true (i % 6) ((setting_of F).side resource).attrs b))))
    where
      users : ℕ
      users = mask_of ((setting_of F).side user).count ((roles_in F).held p.role)

      resources : ℕ
      resources = mask_of ((setting_of F).side resource).count (λ r. (roles_in F).gives p.role r p.lead)

  -- the atoms true of all its holders and resources
  pub atoms-word : (p : Part) → p.role < 32 → p.lead < most_operations
      → atoms_of (links_of F) (record_of F).attributes (get_or (record_of F).holders p.role 0) (get_or (record_of F).permissions (permission_at p.role p.lead) 0) ≡ mask_of 36 (λ i. part_atom (setting_of F) (roles_in F) p (i / 6) (i % 6))
  atoms-word p hk ho = ap₂ (atoms_of (links_of F) (record_of F).attributes) (holders-word p.role hk) (resources-word p.role p.lead hk ho) ∙ atoms-shown p

  -- THE LAW of the words of a part
  pub table-words : (p : Part) → p is_in parts (setting_of F) (roles_in F) → table_words F p ≡ words_of (setting_of F) (block_of (setting_of F) (roles_in F) p)
  table-words p m =
      words_same (holders-word p.role (part-role F Z m)) (resources-word p.role p.lead (part-role F Z m) (part-lead F Z m)) (class_shown F Z p.role p.lead (part-role F Z m) (part-lead F Z m)) (atoms-word p (part-role F Z m) (part-lead F Z m))
      ∙ sym (part-words (setting_of F) (roles_in F) p m)
