-- After every list of edits the record and the table are those of the assignments that the list leaves.
-- Assumes nothing.
use Prim.Native.Nat.{ℕ, ◌≤◌, ◌<◌}
use borrow.Author.Tests.{eqb-true, ltb-true, le-leb, ne_eqb, eqb-false}
use Rattle.std.proofs.Math.Dec.{eqb, ltb, leb}
use Rattle.std.specs.Prelude.{length, get_or, Bool, ◌&&◌, ◌||◌, ◌≡◌}
use Rattle.std.proofs.Math.Bool.{true, false, cond, and-false}
use mathlib.Core.List.{List, [], ◌∷◌}
use Rattle.std.proofs.Math.Path.{refl, sym, ap, ap₂, subst, fun_ext}
use Rattle.std.proofs.Common.{◌∙◌, arith}
use Rattle.files.specs.Answer.{Answer, unless, code_of, left_by, wrong_table, beyond, accepted, map_answer}
use Rattle.files.proofs.BytesLaws.{carried}
use Rattle.files.specs.Edits.{Edit, may_edit, with_edit, edit_answer, summary_word, summary, edited_by}
use Rattle.files.specs.RoleFile.{read_roles}
use Rattle.grant_grids.specs.Grid.{granted_by}
use Rattle.grant_grids.proofs.GridLaws.{granted_means}
use Rattle.policy.specs.Policy.{Policy, senior, side_of, setting_of, roles_in}
use Rattle.policy.specs.Roles.{roles_grant}
use Rattle.policy.specs.Rules.{user, resource}
use Rattle.right_answers.specs.Codes.{edit_code}
use Rattle.right_answers.specs.CodeLaws.{fill-code, fill_passed, edit-code}
use Rattle.right_edits.specs.EveryList.{LoadedFrom, EveryList}
use Rattle.right_edits.specs.Standing.{Standing, standing, holders_of, filled, fill_answer, is_so, changed, edited, standing_answer, after_all}
use Rattle.right_record.specs.Reassigned.{assigned_as, record_as}
use Rattle.right_words.specs.Rights.{rights_word, rights_table, refreshed}
use Rattle.role_file.specs.SettleLaws.{assigned-shown, seniors-shown, holders-shown}
use Rattle.role_file.specs.SizedLaws.{accepted-sized}
use Rattle.role_record.specs.Cells.{permission_at, cell_row, cell_operation, user_cells}
use Rattle.role_record.specs.Record.{Sized, sizes_of, table_of, known_table, value_table, assigned_table, line_table, permission_table, attribute_table, kind_table, domain_table, record_with, record_of}
use Rattle.role_record.specs.RecordLaws.{table_get, table_ext}
use Rattle.role_record.specs.declared.RoleFile.{RoleFile}
use Rattle.role_seniority.specs.Closure.{among, held_table}
use Rattle.role_seniority.specs.ClosureLaws.{held-bit}
use Rattle.sets.specs.LoopLaws.{table-long, table_same}
use Rattle.sets.specs.MaskLaws.{mask_same}
use Rattle.sets.specs.Sets.{bit, mask_of}
use Rattle.sets.specs.SetLaws.{bit_mask}
use Rattle.sets.specs.Tests.{Is, up_to}
use Rattle.sets.specs.TestLaws.{and_l, and_r, iff-out, any_ext, up_to-out}

-- ---- an edit changes nobody's words but its user's

module _ (a s : List ℕ) (n : ℕ) (few : n ≤ 32) (e : Edit) (v : ℕ) (other : v ≡ e.user → ⊥) (low : v < 64) where
  assigned-kept : (k : ℕ) → k < 32 → among (assigned_as a e) k v ≡ among a k v
  unfolding assigned_as
  assigned-kept k l =
      ap (λ (m : ℕ). bit m v) (table_get 32 (λ k. mask_of 64 (λ u. cond (eqb k e.role && eqb u e.user) e.gives (bit (get_or a k 0) u))) k l)
      ∙ bit_mask 64 (λ u. cond (eqb k e.role && eqb u e.user) e.gives (bit (get_or a k 0) u)) v low
      ∙ ap (λ (b : Bool). cond (eqb k e.role && b) e.gives (bit (get_or a k 0) v)) (ne_eqb v e.user other)
      ∙ ap (λ (b : Bool). cond b e.gives (bit (get_or a k 0) v)) (and-false (eqb k e.role))

  held_kept : (k : ℕ) → k < 32 → among (held_table (assigned_as a e) s n) k v ≡ among (held_table a s n) k v
  held_kept k l =
      held-bit (assigned_as a e) s n k v l low
      ∙ ap₂ ◌||◌ (assigned-kept k l)
      (any_ext (λ j. among s k j && among (assigned_as a e) j v) (λ j. among s k j && among a j v) (up_to n)
      (λ j m. let h = up_to-out n m in ap (λ (b : Bool). among s k j && b) (assigned-kept j (omega (arith, h, few)))))
      ∙ sym (held-bit a s n k v l low)

  granted-kept : (p : List ℕ) (r o : ℕ) → granted_by (held_table (assigned_as a e) s n) p n v r o ≡ granted_by (held_table a s n) p n v r o
  unfolding granted_by
  granted-kept p r o =
      any_ext (λ k. among (held_table (assigned_as a e) s n) k v && bit (get_or p (permission_at k o) 0) r) (λ k. among (held_table a s n) k v && bit (get_or p (permission_at k o) 0) r) (up_to n)
      (λ k m. let h = up_to-out n m in ap (λ (b : Bool). b && bit (get_or p (permission_at k o) 0) r) (held_kept k (omega (arith, h, few))))

-- a record within the limits, and its filled table: an edit leaves the filled table of the new record
module _ (f : RoleFile) (few : f.roles ≤ 32) (e : Edit) where
  pub others-kept : (v o : ℕ) → (v ≡ e.user → ⊥) → v < 64 → rights_word (sizes_of f) (holders_of (record_as f e)) f.permissions v o ≡ rights_word (sizes_of f) (holders_of f) f.permissions v o
  unfolding rights_word record_as
  others-kept v o other low =
      ap (λ (m : ℕ). cond (ltb v f.users && ltb o f.operations) m 0)
      (mask_same f.resources (λ r. granted_by (holders_of (record_as f e)) f.permissions f.roles v r o) (λ r. granted_by (holders_of f) f.permissions f.roles v r o)
      (λ r l. granted-kept f.assigned f.seniors f.roles few e v other low f.permissions r o))

  pub kept-filled : changed (standing f (filled f)) e ≡ standing (record_as f e) (filled (record_as f e))
  unfolding changed filled refreshed rights_table record_as
  kept-filled =
      ap (standing (record_as f e))
      (table_ext user_cells (λ i. cond (eqb (cell_row i) e.user) (word (record_as f e) i) (get_or (filled f) i 0)) (word (record_as f e))
      (λ i l. go i l (eqb (cell_row i) e.user) refl))
    where
      word : RoleFile → ℕ → ℕ
      word g i = rights_word (sizes_of g) (holders_of g) g.permissions (cell_row i) (cell_operation i)

      go : (i : ℕ) → i < user_cells → (b : Bool) → eqb (cell_row i) e.user ≡ b → cond b (word (record_as f e) i) (get_or (filled f) i 0) ≡ word (record_as f e) i
      go i l true q = refl
      go i l false q = table_get user_cells (word f) i l ∙ sym (others-kept (cell_row i) (cell_operation i) (eqb-false (cell_row i) e.user q) (omega arith))

-- ---- the record of a policy

module _ (F : Policy) (Z : Sized F) where
  -- its holders are those worked out from its assignments and seniors
  holders-afresh : holders_of (record_of F) ≡ (record_of F).holders
  unfolding record_of record_with
  holders-afresh = ap (λ (s : List ℕ). held_table (assigned_table F) s F.roles) (sym (seniors-shown F Z)) ∙ holders-shown F Z

  word_means : (u o : ℕ) → rights_word (sizes_of (record_of F)) (holders_of (record_of F)) (record_of F).permissions u o ≡ summary_word F u o
  unfolding rights_word summary_word record_of record_with setting_of side_of
  word_means u o = ap (λ (h : List ℕ). rights_word (sizes_of (record_of F)) h (record_of F).permissions u o) holders-afresh ∙ go (ltb u (F.table user).count) refl (ltb o F.operations) refl
    where
      granted : ltb u (F.table user).count ≡ true → ltb o F.operations ≡ true
          → mask_of (F.table resource).count (λ r. granted_by (record_of F).holders (record_of F).permissions F.roles u r o) ≡ mask_of (F.table resource).count (λ r. roles_grant (setting_of F) (roles_in F) u r o)
      granted p q = mask_same (F.table resource).count (λ r. granted_by (record_of F).holders (record_of F).permissions F.roles u r o) (λ r. roles_grant (setting_of F) (roles_in F) u r o)
          (λ r l. granted_means F Z u r o (record { user = ltb-true u (F.table user).count p; resource = l; op = ltb-true o F.operations q }))

      go : (a : Bool) → ltb u (F.table user).count ≡ a → (b : Bool) → ltb o F.operations ≡ b
          → cond (a && b) (mask_of (F.table resource).count (λ r. granted_by (record_of F).holders (record_of F).permissions F.roles u r o)) 0
          ≡ cond (a && b) (mask_of (F.table resource).count (λ r. roles_grant (setting_of F) (roles_in F) u r o)) 0
      go true p true q = granted p q
      go true p false q = refl
      go false p b q = refl

  -- the table filled from it is the summary
  pub filled_means : filled (record_of F) ≡ summary F
  unfolding filled rights_table summary table_of
  filled_means =
      table_same 1024 (λ i. rights_word (sizes_of (record_of F)) (holders_of (record_of F)) (record_of F).permissions (cell_row i) (cell_operation i)) (λ i. summary_word F (cell_row i) (cell_operation i))
      (λ i l. word_means (cell_row i) (cell_operation i))

  summary-long : length (summary F) ≡ 1024
  unfolding summary
  summary-long = table-long 1024 (λ i. summary_word F (cell_row i) (cell_operation i))

  module _ (e : Edit) where
    -- the assignment is so already: nothing changes
    pub same-policy : is_so (record_of F) e ≡ true → with_edit F e ≡ F
    unfolding is_so record_of record_with with_edit
    same-policy h = ap policy (fun_ext λ k. fun_ext λ u. go k u (eqb k e.role) refl (eqb u e.user) refl)
      where
        policy : (ℕ → ℕ → Bool) → Policy
        policy g = record { table = F.table; operations = F.operations; roles = F.roles; assigned = g; permitted = F.permitted; line = F.line }

        so : F.assigned e.role e.user ≡ e.gives
        so = assigned-shown F Z e.role e.user ∙ iff-out (among (assigned_table F) e.role e.user) e.gives h

        go : (k u : ℕ) (a : Bool) → eqb k e.role ≡ a → (b : Bool) → eqb u e.user ≡ b → cond (a && b) e.gives (F.assigned k u) ≡ F.assigned k u
        go k u true p true q = sym so ∙ ap₂ F.assigned (sym (eqb-true k e.role p)) (sym (eqb-true u e.user q))
        go k u true p false q = refl
        go k u false p b q = refl

    assigned-edited : assigned_as (assigned_table F) e ≡ assigned_table (with_edit F e)
    unfolding assigned_as assigned_table with_edit
    assigned-edited =
        table_ext 32 (λ k. mask_of 64 (λ u. cond (eqb k e.role && eqb u e.user) e.gives (bit (get_or (assigned_table F) k 0) u))) (λ k. mask_of 64 (λ u. cond (eqb k e.role && eqb u e.user) e.gives (F.assigned k u)))
        (λ k l. mask_same 64 (λ u. cond (eqb k e.role && eqb u e.user) e.gives (bit (get_or (assigned_table F) k 0) u)) (λ u. cond (eqb k e.role && eqb u e.user) e.gives (F.assigned k u))
        (λ u m. ap (cond (eqb k e.role && eqb u e.user) e.gives) (sym (assigned-shown F Z k u))))

    module _ (role-in : e.role < F.roles) (user-in : e.user < (F.table user).count) where
      pub sized-edited : Sized (with_edit F e)
      unfolding with_edit
      sized-edited = record {
        many = Z.many;
        declared = Z.declared;
        operable = Z.operable;
        few = Z.few;
        lined = Z.lined;
        assigned-to = λ k u. go k u (eqb k e.role) refl (eqb u e.user) refl;
        permits = Z.permits;
      }
        where
          go : (k u : ℕ) (a : Bool) → eqb k e.role ≡ a → (b : Bool) → eqb u e.user ≡ b → Is (cond (a && b) e.gives (F.assigned k u)) → (k < F.roles) × (u < (F.table user).count)
          go k u true p true q h = let d = eqb-true k e.role p in let w = eqb-true u e.user q in (omega (arith, d, role-in), omega (arith, w, user-in))
          go k u true p false q h = Z.assigned-to k u h
          go k u false p b q h = Z.assigned-to k u h

  roles-few : (record_of F).roles ≤ 32
  unfolding record_of record_with
  roles-few = Z.few

module _ (F : Policy) (Z : Sized F) (e : Edit) (role-in : e.role < F.roles) (user-in : e.user < (F.table user).count) where
  -- the record of the policy after the edit
  pub record-edited : record_as (record_of F) e ≡ record_of (with_edit F e)
  unfolding record_as record_of record_with with_edit senior known_table value_table line_table permission_table attribute_table kind_table domain_table
  record-edited = ap₂ with_these (assigned-edited F Z e) (ap (λ (a : List ℕ). held_table a (record_of F).seniors F.roles) (assigned-edited F Z e) ∙ holders-afresh (with_edit F e) (sized-edited F Z e role-in user-in))
    where
      with_these : List ℕ → List ℕ → RoleFile
      with_these a h = record {
        users = (F.table user).count;
        resources = (F.table resource).count;
        operations = F.operations;
        roles = F.roles;
        attributes = attribute_table F;
        kinds = kind_table F;
        domains = domain_table F;
        known = known_table F;
        values = value_table F;
        assigned = a;
        lines = line_table F;
        permissions = permission_table F;
        seniors = (record_of F).seniors;
        holders = h;
      }

-- ---- one edit, and every list

edited-same : (s : Standing) (e : Edit) → is_so s.file e ≡ true → edited s e ≡ s
unfolding edited
edited-same s e h = ap (λ (b : Bool). cond b s (changed s e)) h

edited-other : (s : Standing) (e : Edit) → is_so s.file e ≡ false → edited s e ≡ changed s e
unfolding edited
edited-other s e h = ap (λ (b : Bool). cond b s (changed s e)) h

-- a record and a table that are those of a policy
record Beside (s : Standing) (F : Policy) : Type 0 where
  sized : Sized F
  so : s ≡ standing (record_of F) (summary F)

-- a test passed on both sides, or on none
both_left : (s t : Standing) (F G : Policy) (x y z : Bool) → (z ≡ true → Beside t G) → Beside s F
    → Beside (left_by s (unless x wrong_table (unless y beyond (unless z beyond (accepted t))))) (left_by F (unless x wrong_table (unless y beyond (unless z beyond (accepted G)))))
both_left s t F G true true true h b = h refl
both_left s t F G true true false h b = b
both_left s t F G true false z h b = b
both_left s t F G false y z h b = b

module _ (F : Policy) (Z : Sized F) (e : Edit) where
  -- the record and the table after an edit whose numbers are within the sizes
  edit_means : e.role < F.roles → e.user < (F.table user).count → Beside (edited (standing (record_of F) (summary F)) e) (with_edit F e)
  edit_means role-in user-in = go (is_so (record_of F) e) refl
    where
      here : Standing
      here = standing (record_of F) (summary F)

      after : Beside (changed here e) (with_edit F e)
      after = record {
        sized = sized-edited F Z e role-in user-in;
        so = ap (λ (t : List ℕ). changed (standing (record_of F) t) e) (sym (filled_means F Z))
            ∙ kept-filled (record_of F) (roles-few F Z) e
            ∙ ap (λ (f : RoleFile). standing f (filled f)) (record-edited F Z e role-in user-in)
            ∙ ap (standing (record_of (with_edit F e))) (filled_means (with_edit F e) (sized-edited F Z e role-in user-in));
      }

      go : (b : Bool) → is_so (record_of F) e ≡ b → Beside (edited here e) (with_edit F e)
      go true h = record {
        sized = subst Sized (sym (same-policy F Z e h)) Z;
        so = edited-same here e h ∙ ap (λ (G : Policy). standing (record_of G) (summary G)) (sym (same-policy F Z e h));
      }
      go false h = record { sized = after.sized; so = edited-other here e h ∙ after.so }

  -- what is left of both by any edit
  step_means : Beside (left_by (standing (record_of F) (summary F)) (standing_answer (standing (record_of F) (summary F)) e)) (left_by F (edit_answer F 1024 e))
  unfolding standing_answer edit_answer record_of record_with
  step_means =
      subst
      (λ (n : ℕ). Beside (left_by here (may_edit n (F.table user).count (F.table resource).count F.operations F.roles e (accepted (edited here e)))) (left_by F (edit_answer F 1024 e)))
      (sym (summary-long F Z))
      (both_left here (edited here e) F (with_edit F e) (eqb 1024 1024) (leb (F.table user).count 64 && leb (F.table resource).count 64 && leb F.operations 16 && leb F.roles 32)
      (ltb e.role F.roles && ltb e.user (F.table user).count)
      (λ z. edit_means (ltb-true e.role F.roles (and_l (ltb e.role F.roles) (ltb e.user (F.table user).count) z)) (ltb-true e.user (F.table user).count (and_r (ltb e.role F.roles) (ltb e.user (F.table user).count) z)))
      (record { sized = Z; so = refl }))
    where
      here : Standing
      here = standing (record_of F) (summary F)

-- every edit of a list
list_means : (es : List Edit) (s : Standing) (F : Policy) → Beside s F → Beside (after_all s es) (edited_by F es)
list_means [] s F b = b
list_means (e ∷ es) s F b =
    list_means es (left_by s (standing_answer s e)) (left_by F (edit_answer F 1024 e))
    (subst (λ (t : Standing). Beside (left_by t (standing_answer t e)) (left_by F (edit_answer F 1024 e))) (sym b.so) (step_means F b.sized e))

-- ---- from a loaded file and its filled table on

module _ (F : Policy) (Z : Sized F) where
  -- filling from its record is accepted
  fill_means : fill_answer (record_of F) 1024 ≡ accepted (summary F)
  unfolding fill_answer record_of record_with
  fill_means =
      go (leb (F.table user).count 64) (leb (F.table resource).count 64) (leb F.operations 16) (leb F.roles 32)
      (le-leb (F.table user).count 64 (Z.many user)) (le-leb (F.table resource).count 64 (Z.many resource)) (le-leb F.operations 16 Z.operable) (le-leb F.roles 32 Z.few)
      ∙ ap accepted (filled_means F Z)
    where
      go : (x y z w : Bool) → x ≡ true → y ≡ true → z ≡ true → w ≡ true → unless (x && y && z && w) beyond (accepted (filled (record_of F))) ≡ accepted (filled (record_of F))
      go x y z w p q r t = rw (p, q, r, t) refl

  -- an edit answers beside it what it does beside the policy
  answer_means : (e : Edit) → code_of (standing_answer (standing (record_of F) (summary F)) e) ≡ code_of (edit_answer F 1024 e)
  unfolding standing_answer edit_answer record_of record_with
  answer_means e =
      edit-code (sizes_of (record_of F)) (length (summary F)) e (edited (standing (record_of F) (summary F)) e)
      ∙ ap (λ (n : ℕ). edit_code (sizes_of (record_of F)) n e.role e.user) (summary-long F Z)
      ∙ sym (edit-code (sizes_of (record_of F)) 1024 e (with_edit F e))

-- a loaded file and its filled table
begun : (f : RoleFile) (t after : List ℕ) → 0 ≡ code_of (fill_answer f (length t)) → after ≡ left_by t (fill_answer f (length t)) → (file : List ℕ) (F : Policy) → LoadedFrom file F f → Beside (standing f after) F
unfolding fill_answer
begun f t after h q file F l =
    let Z = carried Sized (read_roles 2 file) (accepted-sized file) l.0 in
    let loaded : f ≡ record_of F = let e = l.1 ∙ ap (map_answer record_of) l.0 in cc in
    let long = (fill_passed (sizes_of f) (length t) (sym (fill-code (sizes_of f) (length t) (filled f)) ∙ sym h)).0 in
    record {
      sized = Z;
      so = ap (standing f) (q ∙ ap (λ (n : ℕ). left_by t (fill_answer f n)) long) ∙ ap (λ (g : RoleFile). standing g (left_by t (fill_answer g 1024))) loaded
          ∙ ap (λ (r : Answer (List ℕ)). standing (record_of F) (left_by t r)) (fill_means F Z);
    }

-- THE LAW, of what filling hands back
pub every_list : (f : RoleFile) (t after : List ℕ) (code : ℕ) → code ≡ code_of (fill_answer f (length t)) → after ≡ left_by t (fill_answer f (length t))
    → (file : List ℕ) (F : Policy) → LoadedFrom file F f → code ≡ 0 → (es : List Edit) → EveryList F (standing f after) es
every_list f t after code p q file F l z es =
    let b = list_means es (standing f after) F (begun f t after (sym z ∙ p) q file F l) in
    record {
      afresh = ap (λ (s : Standing). s.table) b.so;
      refilled = ap (λ (s : Standing). fill_answer s.file 1024) b.so ∙ fill_means (edited_by F es) b.sized ∙ sym (ap (λ (s : Standing). accepted s.table) b.so);
      recorded = ap (λ (s : Standing). s.file) b.so;
      answered = λ d. ap (λ (s : Standing). code_of (standing_answer s d)) b.so ∙ answer_means (edited_by F es) b.sized d;
    }
