-- The laws of grids: what a grid has, how loops fill one, and how a search for the first difference goes on.
-- Assumes nothing.
use Rattle.std.specs.Prelude.{ℕ, zero, suc, ◌+◌, ◌≤◌, ◌<◌, eqb, length, get_or, Bool, true, false, cond, ◌&&◌, not, Some, None, Option as Handed, ◌⊎◌, ◌≡◌}
use Rattle.std.proofs.Common.{eqb-true, eq-eqb, inl, inr, ap₂, ◌∙◌, not-suc-le-zero, le_of_suc-le-suc, eq-or-lt_of_le, add-one, arith}
use Rattle.std.specs.Int.Bits.{bit_or, bit_xor, or_add_and, xor_add_and, xor_self}
use Rattle.std.proofs.lemmas.Nat.{and_le_l, and_le_r}
use Rattle.std.proofs.lemmas.Bool.{false≢true}
use Rattle.std.specs.Bool.{beq}
use mathlib.Core.List.Memᴰ
use mathlib.Core.List.{List, [], ◌∷◌, ◌++◌, map}
use Rattle.std.proofs.Math.Option.{Option, none, some}
use Rattle.std.proofs.Math.Path.{refl, sym, ap}
use Rattle.role_record.specs.Cells.{grid_at, grid_user, grid_operation, grid_cells}
use Rattle.role_record.specs.CellsLaws.{grid_parts, grid_again}
use Rattle.role_record.specs.Record.{Sized, table_of, record_of}
use Rattle.role_admit.specs.RoleTableLaws.{record-grants}
use Rattle.files.proofs.CallLaws.{first-none, triple_in, first_ext}
use Rattle.files.specs.Calls.{first, triples, rules_grant, first_difference}
use Rattle.files.specs.RuleFile.{Lines}
use Rattle.role_record.specs.RecordLaws.{table_get, table-length, table_ext}
use Rattle.policy.specs.Policy.{Policy, side_of, setting_of, roles_in}
use Rattle.policy.specs.Roles.{Roles, roles_grant}
use Rattle.policy.proofs.RuleLaws.{same_in, same_out}
use Rattle.policy.specs.Rules.{Setting, Block, Triple, same_block, user, resource}
use Rattle.sets.specs.ListLaws.{each_more}
use Rattle.sets.specs.LoopLaws.{all_more, table-unique}
use Rattle.sets.specs.MaskLaws.{mask_same, mask_none}
use Rattle.sets.specs.Sets.{bit, mask_of}
use Rattle.sets.specs.SetLaws.{bit_mask}
use Rattle.sets.specs.Tests.{Is, iff, all, each, up_to, ◌is_in◌}
use Rattle.sets.specs.TestLaws.{and_in, and_l, and_r, fails, same, iff_in, all-out, up_to_in, up_to-out, each-out, map-out, beq_iff}
use Rattle.grant_grids.specs.Grid.{grid_of, in_grid, granted_by, triple_list, differ_at, same_words, same_tables, grid_difference, difference_of, is_same}

-- ---- grids

module _ (n : ℕ) where
  pub in-grid : (G : Block) (u r o : ℕ) → u < 64 → r < 64 → o < n → in_grid (grid_of n G) u r o ≡ G u r o
  unfolding in_grid grid_of
  in-grid G u r o hu hr ho =
      ap (λ (m : ℕ). bit m r) (table_get (grid_cells n) (λ i. mask_of 64 (λ r. G (grid_user i) r (grid_operation i))) (grid_at u o) (omega arith))
      ∙ bit_mask 64 (λ r. G (grid_user (grid_at u o)) r (grid_operation (grid_at u o))) r hr
      ∙ grid_parts (λ x y. G x r y) u o hu

  -- the resources of a word
  pub word-bit : (G : Block) (i r : ℕ) → i < grid_cells n → r < 64 → bit (get_or (grid_of n G) i 0) r ≡ G (grid_user i) r (grid_operation i)
  unfolding grid_of
  word-bit G i r l k = ap (λ (m : ℕ). bit m r) (table_get (grid_cells n) (λ i. mask_of 64 (λ r. G (grid_user i) r (grid_operation i))) i l) ∙ bit_mask 64 (λ r. G (grid_user i) r (grid_operation i)) r k

  pub grid_long : (G : Block) → length (grid_of n G) ≡ grid_cells n
  unfolding grid_of
  grid_long G = table-length (grid_cells n) (λ i. mask_of 64 (λ r. G (grid_user i) r (grid_operation i)))

  pub grid_unique : (t : List ℕ) (G : Block) → length t ≡ grid_cells n → ((i : ℕ) → i < grid_cells n → get_or t i 0 ≡ mask_of 64 (λ r. G (grid_user i) r (grid_operation i))) → t ≡ grid_of n G
  unfolding grid_of table_of
  grid_unique t G e h = table-unique (grid_cells n) t (λ i. mask_of 64 (λ r. G (grid_user i) r (grid_operation i))) e h

  -- a table of empty sets has no triples
  pub no_triples : (before after : List ℕ) → length before ≡ grid_cells n → after ≡ table_of (length before) (λ i. 0) → after ≡ grid_of n (λ u r o. false)
  no_triples before after h e =
      grid_unique after (λ u r o. false) (ap length e ∙ table-length (length before) (λ i. 0) ∙ h)
      (λ i l. ap (λ (t : List ℕ). get_or t i 0) e ∙ table_get (length before) (λ i. 0) i (omega (arith, l, h)) ∙ sym (mask_none 64 (λ r. false) (λ r k. refl)))

  -- sets of triples that agree wherever a grid has room have one grid
  pub grid_same : (G H : Block) → ((u r o : ℕ) → u < 64 → r < 64 → o < n → G u r o ≡ H u r o) → grid_of n G ≡ grid_of n H
  unfolding grid_of
  grid_same G H h =
      table_ext (grid_cells n) (λ i. mask_of 64 (λ r. G (grid_user i) r (grid_operation i))) (λ i. mask_of 64 (λ r. H (grid_user i) r (grid_operation i)))
      (λ i l. mask_same 64 (λ r. G (grid_user i) r (grid_operation i)) (λ r. H (grid_user i) r (grid_operation i)) (λ r k. h (grid_user i) r (grid_operation i) (omega arith) k (omega arith)))

-- ---- what the roles grant

module _ (F : Policy) (Z : Sized F) where
  -- the tables of a policy's record grant what the policy's roles do
  pub granted_means : (u r o : ℕ) → Triple (setting_of F) u r o → granted_by (record_of F).holders (record_of F).permissions F.roles u r o ≡ roles_grant (setting_of F) (roles_in F) u r o
  unfolding granted_by setting_of side_of
  granted_means u r o t = record-grants F Z u r o t

  pub roles_grid_means : (u r o : ℕ) → Triple (setting_of F) u r o
      → in_grid (grid_of F.operations (granted_by (record_of F).holders (record_of F).permissions F.roles)) u r o ≡ roles_grant (setting_of F) (roles_in F) u r o
  unfolding setting_of side_of
  roles_grid_means u r o t =
      let lu = t.user in
      let lr = t.resource in
      let lo = t.op in
      let mu = Z.many user in
      let mr = Z.many resource in
      in-grid F.operations (granted_by (record_of F).holders (record_of F).permissions F.roles) u r o (omega arith) (omega arith) (omega arith) ∙ granted_means u r o t

-- ---- the first that passes, in lists one after the other

some_not_none {ℓ} : {X : Type ℓ} {A : Type 0} {x : A} → some x ≡ none → X
some_not_none h = let z : ◌≡◌ {A = ℕ} 0 1 = cc in absurd (omega arith)

module _ {T : Type 0} (f : T → Bool) where
  -- past a list with none
  first_past : (l m : List T) → first f l ≡ none → first f (l ++ m) ≡ first f m
  first_past [] m h = refl
  first_past (x ∷ xs) m h = go (f x) h (first_past xs m)
    where
      go : (b : Bool) → cond b (some x) (first f xs) ≡ none → (first f xs ≡ none → first f (xs ++ m) ≡ first f m) → cond b (some x) (first f (xs ++ m)) ≡ first f m
      go true h r = some_not_none h
      go false h r = r h

  -- in front of a list
  first-front : (l m : List T) (t : T) → first f l ≡ some t → first f (l ++ m) ≡ some t
  first-front [] m t h = some_not_none (sym h)
  first-front (x ∷ xs) m t h = go (f x) h (first-front xs m t)
    where
      go : (b : Bool) → cond b (some x) (first f xs) ≡ some t → (first f xs ≡ some t → first f (xs ++ m) ≡ some t) → cond b (some x) (first f (xs ++ m)) ≡ some t
      go true h r = h
      go false h r = r h

  first_on : (g : ℕ → List T) (n : ℕ) → first f (each g (up_to n)) ≡ none → first f (g n) ≡ none → first f (each g (up_to (n + 1))) ≡ none
  first_on g n h e = ap (first f) (each_more g n) ∙ first_past (each g (up_to n)) (g n) h ∙ e

  first-here : (g : ℕ → List T) (n m : ℕ) (t : T) → n < m → first f (each g (up_to n)) ≡ none → first f (g n) ≡ some t → first f (each g (up_to m)) ≡ some t
  first-here g n zero t l h e = absurd (not-suc-le-zero l)
  first-here g n (suc m) t l h e =
      ap (λ (x : ℕ). first f (each g (up_to x))) (sym (add-one m)) ∙ ap (first f) (each_more g m)
      ∙ go (eq-or-lt_of_le (le_of_suc-le-suc l)) (first-here g n m t)
    where
      go : (n ≡ m) ⊎ (n < m) → (n < m → first f (each g (up_to n)) ≡ none → first f (g n) ≡ some t → first f (each g (up_to m)) ≡ some t) → first f (each g (up_to m) ++ g m) ≡ some t
      go (inl q) r = rw q at (first_past (each g (up_to n)) (g n) h ∙ e)
      go (inr k) r = first-front (each g (up_to m)) (g m) t (r k h e)

module _ {T : Type 0} (g : ℕ → T) where
  one_each : (l : List ℕ) → map g l ≡ each (λ x. g x ∷ []) l
  one_each [] = refl
  one_each (x ∷ xs) = ap (λ (l : List T). g x ∷ l) (one_each xs)

-- ---- the search for the first difference. The three loops have passed the users below n; the user's resources below n; the
-- resource's operations below n

module _ (G H : Block) where
  abbrev pub UsersPassed : ℕ → ℕ → ℕ → Type 0
  UsersPassed rs os n = first (differ_at G H) (triple_list n rs os) ≡ none

  abbrev pub ResourcesPassed : ℕ → ℕ → ℕ → Type 0
  ResourcesPassed os u n = first (differ_at G H) (each (λ r. map (λ o. (u, r, o)) (up_to os)) (up_to n)) ≡ none

  abbrev pub OperationsPassed : ℕ → ℕ → ℕ → Type 0
  OperationsPassed u r n = first (differ_at G H) (map (λ o. (u, r, o)) (up_to n)) ≡ none

  pub no_users : (rs os : ℕ) → UsersPassed rs os 0
  unfolding triple_list
  no_users rs os = refl

  pub no_resources : (os u : ℕ) → ResourcesPassed os u 0
  no_resources os u = refl

  pub no_operations : (u r : ℕ) → OperationsPassed u r 0
  no_operations u r = refl

  pub operation-passed : (u r n : ℕ) {d : Bool} → OperationsPassed u r n → d ≡ not (iff (G u r n) (H u r n)) → d ≡ false → OperationsPassed u r (n + 1)
  unfolding differ_at
  operation-passed u r n h q e =
      ap (first (differ_at G H)) (one_each (λ o. (u, r, o)) (up_to (n + 1)))
      ∙ first_on (differ_at G H) (λ o. (u, r, o) ∷ []) n (ap (first (differ_at G H)) (sym (one_each (λ o. (u, r, o)) (up_to n))) ∙ h) (rw (sym q ∙ e) refl)

  pub resource-passed : (os u n o : ℕ) → ResourcesPassed os u n → OperationsPassed u n o → o ≡ os → ResourcesPassed os u (n + 1)
  resource-passed os u n o h k e =
      first_on (differ_at G H) (λ r. map (λ o. (u, r, o)) (up_to os)) n h (ap (λ (x : ℕ). first (differ_at G H) (map (λ o. (u, n, o)) (up_to x))) (sym e) ∙ k)

  pub user-passed : (rs os n r : ℕ) → UsersPassed rs os n → ResourcesPassed os n r → r ≡ rs → UsersPassed rs os (n + 1)
  unfolding triple_list
  user-passed rs os n r h k e =
      first_on (differ_at G H) (λ u. each (λ r. map (λ o. (u, r, o)) (up_to os)) (up_to rs)) n h
      (ap (λ (x : ℕ). first (differ_at G H) (each (λ r. map (λ o. (n, r, o)) (up_to os)) (up_to x))) (sym e) ∙ k)

  -- the search is left at a difference
  pub found : (us rs os u r o : ℕ) → u < us → r < rs → o < os → UsersPassed rs os u → ResourcesPassed os u r → OperationsPassed u r o
      → not (iff (G u r o) (H u r o)) ≡ true → first (differ_at G H) (triple_list us rs os) ≡ some (u, r, o)
  unfolding triple_list differ_at
  found us rs os u r o lu lr lo hu hr ho e =
      first-here (differ_at G H) (λ u. each (λ r. map (λ o. (u, r, o)) (up_to os)) (up_to rs)) u us (u, r, o) lu hu
      (first-here (differ_at G H) (λ r. map (λ o. (u, r, o)) (up_to os)) r rs (u, r, o) lr hr
      (ap (first (differ_at G H)) (one_each (λ o. (u, r, o)) (up_to os))
      ∙ first-here (differ_at G H) (λ o. (u, r, o) ∷ []) o os (u, r, o) lo (ap (first (differ_at G H)) (sym (one_each (λ o. (u, r, o)) (up_to o))) ∙ ho) (rw e refl)))

-- a user with the same words differs at none
pub user-skipped : (a b : List ℕ) (rs os n : ℕ) {s : Bool} → UsersPassed (in_grid a) (in_grid b) rs os n → s ≡ same_words a b n os → s ≡ true → UsersPassed (in_grid a) (in_grid b) rs os (n + 1)
unfolding same_words differ_at in_grid
user-skipped a b rs os n h q e = user-passed (in_grid a) (in_grid b) rs os n rs h (first-none (differ_at (in_grid a) (in_grid b)) (each (λ r. map (λ o. (n, r, o)) (up_to os)) (up_to rs)) alike) refl
  where
    words : same_words a b n os ≡ true
    words = sym q ∙ e

    alike : (t : ℕ × ℕ × ℕ) → t is_in each (λ r. map (λ o. (n, r, o)) (up_to os)) (up_to rs) → differ_at (in_grid a) (in_grid b) t ≡ false
    alike t m =
        let p = each-out (λ r. map (λ o. (n, r, o)) (up_to os)) (up_to rs) m in
        let k = map-out (λ o. (n, p.0, o)) (up_to os) p.2 in
        let w = eqb-true (get_or a (grid_at n k.0) 0) (get_or b (grid_at n k.0) 0) (all-out (λ o. eqb (get_or a (grid_at n o) 0) (get_or b (grid_at n o) 0)) words k.1) in
        ap (differ_at (in_grid a) (in_grid b)) k.2 ∙ ap not (iff_in (bit (get_or a (grid_at n k.0) 0) p.0) (bit (get_or b (grid_at n k.0) 0) p.0) (ap (λ (m : ℕ). bit m p.0) w))

-- what the code hands back
module _ (a b : List ℕ) where
  pub found_at : (us rs os u r o : ℕ) {d : Bool} → u < us → r < rs → o < os → UsersPassed (in_grid a) (in_grid b) rs os u → ResourcesPassed (in_grid a) (in_grid b) os u r → OperationsPassed (in_grid a) (in_grid b) u r o
      → d ≡ not (iff (in_grid a u r o) (in_grid b u r o)) → d ≡ true → Some (u, r, o) ≡ difference_of (grid_difference a b us rs os)
  unfolding grid_difference difference_of
  found_at us rs os u r o lu lr lo hu hr ho q e = sym (ap difference_of (found (in_grid a) (in_grid b) us rs os u r o lu lr lo hu hr ho (sym q ∙ e)))

  pub found_none : (us rs os u : ℕ) → UsersPassed (in_grid a) (in_grid b) rs os u → u ≡ us → None ≡ difference_of (grid_difference a b us rs os)
  unfolding grid_difference difference_of
  found_none us rs os u h e = sym (ap difference_of (ap (λ (x : ℕ). first (differ_at (in_grid a) (in_grid b)) (triple_list x rs os)) (sym e) ∙ h))

pub differs : {p q x y : Bool} → p ≡ x → q ≡ y → not (beq p q) ≡ not (iff x y)
differs {x = x} {y = y} e f = ap₂ (λ (a b : Bool). not (beq a b)) e f ∙ ap not (beq_iff x y)

-- ---- THE LAW: the first difference of two grids is that of the sets of triples that they stand for

pub triples-same : (P : Setting) → triples P ≡ triple_list (P.side user).count (P.side resource).count P.slots
unfolding triples triple_list
triples-same P = refl

pub triple-out : (P : Setting) (t : ℕ × ℕ × ℕ) → t is_in triple_list (P.side user).count (P.side resource).count P.slots → Triple P t.0 t.1 t.2
unfolding triple_list
triple-out P t m =
    let p = each-out (λ u. each (λ r. map (λ o. (u, r, o)) (up_to P.slots)) (up_to (P.side resource).count)) (up_to (P.side user).count) m in
    let q = each-out (λ r. map (λ o. (p.0, r, o)) (up_to P.slots)) (up_to (P.side resource).count) p.2 in
    let s = map-out (λ o. (p.0, q.0, o)) (up_to P.slots) q.2 in
    rw s.2 (record { user = up_to-out (P.side user).count p.1; resource = up_to-out (P.side resource).count q.1; op = up_to-out P.slots s.1 })

pub difference_means : (P : Setting) (G H : Block) (a b : List ℕ)
    → ((u r o : ℕ) → Triple P u r o → in_grid a u r o ≡ G u r o) → ((u r o : ℕ) → Triple P u r o → in_grid b u r o ≡ H u r o)
    → grid_difference a b (P.side user).count (P.side resource).count P.slots ≡ first (λ (t : ℕ × ℕ × ℕ). not (iff (G t.0 t.1 t.2) (H t.0 t.1 t.2))) (triples P)
unfolding grid_difference differ_at
difference_means P G H a b p q =
    first_ext (differ_at (in_grid a) (in_grid b)) (differ_at G H) (triple_list (P.side user).count (P.side resource).count P.slots)
    (λ t m. let k = triple-out P t m in ap₂ (λ (x y : Bool). not (iff x y)) (p t.0 t.1 t.2 k) (q t.0 t.1 t.2 k))
    ∙ ap (first (differ_at G H)) (sym (triples-same P))

-- at what roles and rules grant: the judge's first verdict
pub judged_means : (P : Setting) (R : Roles) (rules : List Lines) (a b : List ℕ)
    → ((u r o : ℕ) → Triple P u r o → in_grid a u r o ≡ roles_grant P R u r o) → ((u r o : ℕ) → Triple P u r o → in_grid b u r o ≡ rules_grant P rules u r o)
    → grid_difference a b (P.side user).count (P.side resource).count P.slots ≡ first_difference P R rules
unfolding first_difference
judged_means P R rules a b p q = difference_means P (roles_grant P R) (rules_grant P rules) a b p q

-- ---- grids without a difference stand for the same triples

first_out : {T : Type 0} (f : T → Bool) {x : T} {l : List T} → first f l ≡ none → x is_in l → f x ≡ false
first_out f h (Memᴰ.head {x = y} {xs = ys} e) = ap f e ∙ fails (f y) (λ k. some_not_none (rw k at h))
first_out f h (Memᴰ.tail {x = y} {xs = ys} m) = first_out f (past (f y) h) m
  where
    past : (b : Bool) → cond b (some y) (first f ys) ≡ none → first f ys ≡ none
    past true h = some_not_none h
    past false h = h

none_so : (d : Option (ℕ × ℕ × ℕ)) → is_same (difference_of d) ≡ true → d ≡ none
unfolding difference_of is_same
none_so none h = refl
none_so (some t) h = absurd (false≢true h)

not_differs : (x y : Bool) → not (iff x y) ≡ false → x ≡ y
not_differs true true h = refl
not_differs true false h = h
not_differs false true h = sym h
not_differs false false h = refl

pub same_means : (P : Setting) (G H : Block) → is_same (difference_of (first (λ (t : ℕ × ℕ × ℕ). not (iff (G t.0 t.1 t.2) (H t.0 t.1 t.2))) (triples P))) ≡ same_block P G H
unfolding difference_of is_same differ_at
same_means P G H =
    same (is_same (difference_of (first (differ_at G H) (triples P)))) (same_block P G H)
    (λ h. same_in P G H (λ u r o t. not_differs (G u r o) (H u r o) (first_out (differ_at G H) (none_so (first (differ_at G H) (triples P)) h) (triple_in P u r o t))))
    (λ h. ap (λ (d : Option (ℕ × ℕ × ℕ)). is_same (difference_of d))
    (first-none (differ_at G H) (triples P) (λ t m. ap not (iff_in (G t.0 t.1 t.2) (H t.0 t.1 t.2) (same_out P G H h t.0 t.1 t.2 (triple-out P t (rw (triples-same P) at m)))))))

-- the answer of a comparison of two grids is the test of what they stand for
pub grids_same : (P : Setting) (G H : Block) (a b : List ℕ)
    → ((u r o : ℕ) → Triple P u r o → in_grid a u r o ≡ G u r o) → ((u r o : ℕ) → Triple P u r o → in_grid b u r o ≡ H u r o)
    → is_same (difference_of (grid_difference a b (P.side user).count (P.side resource).count P.slots)) ≡ same_block P G H
grids_same P G H a b p q = ap (λ (d : Option (ℕ × ℕ × ℕ)). is_same (difference_of d)) (difference_means P G H a b p q) ∙ same_means P G H

-- what is handed back tells whether nothing differs, by a test that it is something
module _ (something : Handed (ℕ × ℕ × ℕ) → Bool) (of-none : something None ≡ false) (of-some : (t : ℕ × ℕ × ℕ) → something (Some t) ≡ true) where
  pub told_same : (d : Handed (ℕ × ℕ × ℕ)) {e : Handed (ℕ × ℕ × ℕ)} (b : Bool) → something d ≡ not b → d ≡ e → b ≡ is_same e
  unfolding is_same
  told_same d b h e = go d b h ∙ ap is_same e
    where
      go : (d : Handed (ℕ × ℕ × ℕ)) (b : Bool) → something d ≡ not b → b ≡ is_same d
      go None true h = refl
      go None false h = sym of-none ∙ h
      go (Some t) true h = sym (of-some t) ∙ h
      go (Some t) false h = refl

-- ---- many words at once

-- `differences | (x ^ y)` has nothing in it just if nothing differs so far and x is y
differences_on : (d x y : ℕ) → eqb (bit_or d (bit_xor x y)) 0 ≡ (eqb d 0 && eqb x y)
differences_on d x y = same (eqb (bit_or d (bit_xor x y)) 0) (eqb d 0 && eqb x y) there back
  where
    none : (a b : ℕ) → bit_or a b ≡ 0 → (a ≡ 0) × (b ≡ 0)
    none a b e = let s = or_add_and a b in let p = and_le_l a b in let q = and_le_r a b in (omega arith, omega arith)

    alike : (a b : ℕ) → bit_xor a b ≡ 0 → a ≡ b
    alike a b e = let s = xor_add_and a b in let p = and_le_l a b in let q = and_le_r a b in omega arith

    there : Is (eqb (bit_or d (bit_xor x y)) 0) → Is (eqb d 0 && eqb x y)
    there h = let n = none d (bit_xor x y) (eqb-true (bit_or d (bit_xor x y)) 0 h) in and_in (eq-eqb d 0 n.0) (eq-eqb x y (alike x y n.1))

    back : Is (eqb d 0 && eqb x y) → Is (eqb (bit_or d (bit_xor x y)) 0)
    back h =
        let p = eqb-true d 0 (and_l (eqb d 0) (eqb x y) h) in
        let q = eqb-true x y (and_r (eqb d 0) (eqb x y) h) in
        eq-eqb (bit_or d (bit_xor x y)) 0 (ap₂ (λ (a b : ℕ). bit_or a (bit_xor b y)) p q ∙ ap (bit_or 0) (xor_self y))

-- a loop that joins the differences, `differences | (x ^ y)`: there are none just if the words so far are the same
module _ (f g : ℕ → ℕ) where
  abbrev pub Alike : ℕ → ℕ → Type 0
  Alike d n = eqb d 0 ≡ all (λ i. eqb (f i) (g i)) (up_to n)

  pub alike-none : Alike 0 0
  alike-none = refl

  pub alike-more : (d d' n : ℕ) → Alike d n → d' ≡ bit_or d (bit_xor (f n) (g n)) → Alike d' (n + 1)
  alike-more d d' n h e =
      ap (λ (x : ℕ). eqb x 0) e ∙ differences_on d (f n) (g n) ∙ ap (λ (x : Bool). x && eqb (f n) (g n)) h
      ∙ sym (all_more (λ i. eqb (f i) (g i)) n)

  pub alike_end : (d n m : ℕ) → Alike d n → n ≡ m → eqb d 0 ≡ all (λ i. eqb (f i) (g i)) (up_to m)
  alike_end d n m h e = h ∙ ap (λ (x : ℕ). all (λ i. eqb (f i) (g i)) (up_to x)) e

-- tables with the same words differ at none of their triples
pub all-skipped : (a b : List ℕ) (us rs os : ℕ) {s : Bool} → us ≤ 64 → s ≡ same_tables a b (grid_cells os) → s ≡ true → None ≡ difference_of (grid_difference a b us rs os)
unfolding same_tables grid_difference difference_of triple_list differ_at in_grid
all-skipped a b us rs os few q e = sym (ap difference_of (first-none (differ_at (in_grid a) (in_grid b)) (triple_list us rs os) alike))
  where
    words : all (λ i. eqb (get_or a i 0) (get_or b i 0)) (up_to (grid_cells os)) ≡ true
    words = sym q ∙ e

    alike : (t : ℕ × ℕ × ℕ) → t is_in triple_list us rs os → differ_at (in_grid a) (in_grid b) t ≡ false
    alike t m =
        let p = each-out (λ u. each (λ r. map (λ o. (u, r, o)) (up_to os)) (up_to rs)) (up_to us) m in
        let k = each-out (λ r. map (λ o. (p.0, r, o)) (up_to os)) (up_to rs) p.2 in
        let j = map-out (λ o. (p.0, k.0, o)) (up_to os) k.2 in
        let lu = up_to-out us p.1 in
        let lo = up_to-out os j.1 in
        let w = eqb-true (get_or a (grid_at p.0 j.0) 0) (get_or b (grid_at p.0 j.0) 0) (all-out (λ i. eqb (get_or a i 0) (get_or b i 0)) words (up_to_in {n = grid_cells os} {i = grid_at p.0 j.0} (omega arith))) in
        ap (differ_at (in_grid a) (in_grid b)) j.2 ∙ ap not (iff_in (bit (get_or a (grid_at p.0 j.0) 0) k.0) (bit (get_or b (grid_at p.0 j.0) 0) k.0) (ap (λ (m : ℕ). bit m k.0) w))
