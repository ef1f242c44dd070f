-- A grid to which the parts listed are joined while lines are read is the grid of what they grant.
-- Assumes nothing.
use Rattle.std.specs.Prelude.{ℕ, ◌+◌, ◌<◌, ltb, length, get_or, set, Bool, true, false, ◌&&◌, ◌||◌, List, [], ◌∷◌, ◌++◌, ◌≡◌}
use borrow.Author.Tests.{eqb-true, eqb-false, eq-eqb, ne_eqb, ltb-true, lt-ltb, le-ltb}
use Rattle.std.proofs.Math.Dec.{eqb}
use Rattle.std.proofs.Math.Bool.{cond, and-false, and_assoc, and-true, or-false}
use Rattle.std.proofs.lemmas.Bool.{false≢true}
use Rattle.std.proofs.Math.Path.{refl, sym, ap, ap₂}
use Rattle.std.proofs.Common.{◌∙◌, zero-add}
use native.Mathlib.Omega.{arith}
use Rattle.role_record.specs.Cells.{most_operations, permission_at, grid_user, grid_operation, grid_cells}
use Rattle.role_admit.specs.RoleTableLaws.{permitted_on, row-shown, holder-within}
use Rattle.role_record.specs.Record.{Sized, table_of, permission_table, record_with, record_of}
use Rattle.files.specs.Beside.{beside_of}
use Rattle.files.specs.Calls.{parts_grant}
use Rattle.files.specs.RuleFile.{RuleCommand, Lines, is_part_line, lists, parts_in, legal, reshapes, opens, value, operations, link, part, level, ends}
use Rattle.grant_grids.specs.Grid.{grid_of}
use Rattle.grant_grids.proofs.GridLaws.{grid_same}
use Rattle.grant_grids.specs.Updates.{updated, joined_word, permitted_to, added_part}
use Rattle.role_record.specs.RecordLaws.{table_get, table-length, table_ext}
use Rattle.policy.specs.Merging.{union}
use Rattle.policy.specs.Mined.{part_count, part_at, part_block}
use Rattle.policy.proofs.PartLaws.{alike-out, parts_out}
use Rattle.policy.specs.Policy.{Policy, held, side_of, setting_of, roles_in}
use Rattle.policy.specs.Roles.{Roles, Part, alike, parts, block_of, class_of}
use Rattle.policy.specs.Rules.{Setting, Block, Triple}
use Rattle.sets.specs.ListLaws.{any_last}
use Rattle.sets.specs.LoopLaws.{table-unique}
use Rattle.sets.specs.MaskLaws.{mask_same}
use Rattle.sets.specs.Sets.{bit, mask_of}
use Rattle.sets.specs.SetLaws.{bit_mask}
use Rattle.sets.specs.Tests.{Is, any, keep, up_to}
use Rattle.sets.specs.TestLaws.{and_in, and_l, and_r, test, same, any_in, any_out, any_places, any_ext, below_next}

-- ---- what one more line adds

any-keep {ℓ} : {A : Type ℓ} (f g : A → Bool) (l : List A) → any f (keep g l) ≡ any (λ x. g x && f x) l
any-keep f g [] = refl
any-keep f g (x ∷ l) = go (g x) ∙ ap (λ (b : Bool). (g x && f x) || b) (any-keep f g l)
  where
    go : (b : Bool) → any f (cond b (x ∷ keep g l) (keep g l)) ≡ ((b && f x) || any f (keep g l))
    go true = refl
    go false = refl

any-either {ℓ} : {A : Type ℓ} (f g h : A → Bool) (l : List A) → any (λ x. (f x || g x) && h x) l ≡ (any (λ x. f x && h x) l || any (λ x. g x && h x) l)
any-either f g h [] = refl
any-either f g h (x ∷ l) = ap (λ (b : Bool). ((f x || g x) && h x) || b) (any-either f g h l) ∙ go (f x) (g x) (h x) (any (λ x. f x && h x) l) (any (λ x. g x && h x) l)
  where
    go : (a b c p q : Bool) → (((a || b) && c) || (p || q)) ≡ (((a && c) || p) || ((b && c) || q))
    go true b true p q = refl
    go true true false p q = refl
    go true false false p q = refl
    go false true true true q = refl
    go false true true false q = refl
    go false true false p q = refl
    go false false c p q = refl

any-never {ℓ} : {A : Type ℓ} (f : A → Bool) (l : List A) → ((x : A) → f x ≡ false) → any f l ≡ false
any-never f [] h = refl
any-never f (x ∷ l) h = ap₂ ◌||◌ (h x) (any-never f l h)

module _ (P : Setting) (R : Roles) where
  -- what the parts grant that one line lists
  line_grants : RuleCommand → Block
  line_grants c u r o = any (λ p. lists P R p c && part_block P R p u r o) (up_to (part_count P R))

  line-adds : (ls : Lines) (c : RuleCommand) (u r o : ℕ) → parts_grant P R (ls ++ (c ∷ [])) u r o ≡ (parts_grant P R ls u r o || line_grants c u r o)
  unfolding parts_grant union parts_in line_grants
  line-adds ls c u r o =
      any-keep (λ p. part_block P R p u r o) (λ p. any (lists P R p) (ls ++ (c ∷ []))) (up_to (part_count P R))
      ∙ any_ext (λ p. any (lists P R p) (ls ++ (c ∷ [])) && part_block P R p u r o) (λ p. (any (lists P R p) ls || lists P R p c) && part_block P R p u r o) (up_to (part_count P R))
      (λ p m. ap (λ (b : Bool). b && part_block P R p u r o) (any_last (lists P R p) ls c))
      ∙ any-either (λ p. any (lists P R p) ls) (λ p. lists P R p c) (λ p. part_block P R p u r o) (up_to (part_count P R))
      ∙ ap (λ (b : Bool). b || line_grants c u r o) (sym (any-keep (λ p. part_block P R p u r o) (λ p. any (lists P R p) ls) (up_to (part_count P R))))

  other-line : (c : RuleCommand) → is_part_line c ≡ false → (p : ℕ) → lists P R p c ≡ false
  unfolding lists
  other-line reshapes h p = refl
  other-line opens h p = refl
  other-line (value w s a v) h p = refl
  other-line (operations m) h p = refl
  other-line (link a b) h p = refl
  other-line (part k m) h p = absurd (false≢true (sym h))
  other-line (level x) h p = refl
  other-line ends h p = refl

  -- a line that lists no part changes nothing
  pub part-kept : (ls : Lines) (c : RuleCommand) → is_part_line c ≡ false → (u r o : ℕ) → parts_grant P R (ls ++ (c ∷ [])) u r o ≡ parts_grant P R ls u r o
  unfolding line_grants
  part-kept ls c h u r o =
      line-adds ls c u r o
      ∙ ap (λ (b : Bool). parts_grant P R ls u r o || b) (any-never (λ p. lists P R p c && part_block P R p u r o) (up_to (part_count P R)) (λ p. ap (λ (b : Bool). b && part_block P R p u r o) (other-line c h p)))
      ∙ or-false (parts_grant P R ls u r o)

  pub grid_kept : (n : ℕ) (ls : Lines) (c : RuleCommand) → is_part_line c ≡ false → grid_of n (parts_grant P R (ls ++ (c ∷ []))) ≡ grid_of n (parts_grant P R ls)
  grid_kept n ls c h = grid_same n (parts_grant P R (ls ++ (c ∷ []))) (parts_grant P R ls) (λ u r o hu hr ho. part-kept ls c h u r o)

  -- no line, no triple
  pub none-listed : (n : ℕ) → grid_of n (λ u r o. false) ≡ grid_of n (parts_grant P R [])
  unfolding parts_grant union parts_in
  none-listed n = grid_same n (λ u r o. false) (parts_grant P R []) (λ u r o hu hr ho. sym (any-keep (λ p. part_block P R p u r o) (λ p. false) (up_to (part_count P R)) ∙ any-never (λ p. false) (up_to (part_count P R)) (λ p. refl)))

  -- what a line 28 lists, looked for among the parts
  line-parts : (k m u r o : ℕ) → line_grants (part k m) u r o ≡ any (λ q. (eqb q.role k && eqb (class_of P R q) m) && block_of P R q u r o) (parts P R)
  unfolding line_grants lists part_block part_count part_at
  line-parts k m u r o =
      any_places (λ q. (eqb q.role k && eqb (class_of P R q) m) && block_of P R q u r o) (record { role = 0; lead = 0 }) 0 (parts P R) (part_at P R) (λ i l. ap (part_at P R) (zero-add i))

-- ---- a word to which a set is joined if a test passes

added_mask : (b : Bool) (old new : ℕ) (f h : ℕ → Bool) → old ≡ mask_of 64 f → ((r : ℕ) → r < 64 → h r ≡ (f r || (b && bit new r))) → cond b (mask_of 64 (λ r. bit old r || bit new r)) old ≡ mask_of 64 h
added_mask true old new f h e q = mask_same 64 (λ r. bit old r || bit new r) h (λ r l. ap (λ (x : Bool). x || bit new r) (ap (λ (m : ℕ). bit m r) e ∙ bit_mask 64 f r l) ∙ sym (q r l))
added_mask false old new f h e q = e ∙ mask_same 64 f h (λ r l. sym (q r l ∙ or-false (f r)))

-- ---- THE LAW: a grid to which the part of a line is joined is the grid of what the parts listed grant, with that line

module _ (F : Policy) (Z : Sized F) where
  -- the block of a part, by its role and its class alone
  block_by_class : (q : Part) (u r o : ℕ) → block_of (setting_of F) (roles_in F) q u r o ≡ (held F q.role u && (bit (class_of (setting_of F) (roles_in F) q) o && F.permitted q.role r o))
  unfolding block_of class_of roles_in setting_of side_of
  block_by_class q u r o =
      ap (λ (b : Bool). held F q.role u && b)
      (same (F.permitted q.role r q.lead && alike (setting_of F) (roles_in F) q.role q.lead o) (bit (mask_of F.operations (alike (setting_of F) (roles_in F) q.role q.lead)) o && F.permitted q.role r o) there back)
    where
      there : Is (F.permitted q.role r q.lead && alike (setting_of F) (roles_in F) q.role q.lead o) → Is (bit (mask_of F.operations (alike (setting_of F) (roles_in F) q.role q.lead)) o && F.permitted q.role r o)
      there h =
          let p = and_l (F.permitted q.role r q.lead) (alike (setting_of F) (roles_in F) q.role q.lead o) h in
          let a = and_r (F.permitted q.role r q.lead) (alike (setting_of F) (roles_in F) q.role q.lead o) h in
          let g : Is (F.permitted q.role r o) = sym (alike-out (setting_of F) (roles_in F) q.role q.lead o r (Z.permits q.role r q.lead p).1 a) ∙ p in
          and_in (bit_mask F.operations (alike (setting_of F) (roles_in F) q.role q.lead) o (Z.permits q.role r o g).2 ∙ a) g

      back : Is (bit (mask_of F.operations (alike (setting_of F) (roles_in F) q.role q.lead)) o && F.permitted q.role r o) → Is (F.permitted q.role r q.lead && alike (setting_of F) (roles_in F) q.role q.lead o)
      back h =
          let b = and_l (bit (mask_of F.operations (alike (setting_of F) (roles_in F) q.role q.lead)) o) (F.permitted q.role r o) h in
          let g = and_r (bit (mask_of F.operations (alike (setting_of F) (roles_in F) q.role q.lead)) o) (F.permitted q.role r o) h in
          let a : Is (alike (setting_of F) (roles_in F) q.role q.lead o) = sym (bit_mask F.operations (alike (setting_of F) (roles_in F) q.role q.lead) o (Z.permits q.role r o g).2) ∙ b in
          and_in (alike-out (setting_of F) (roles_in F) q.role q.lead o r (Z.permits q.role r o g).1 a ∙ g) a

  -- what a line 28 adds, if it names a part
  line-block : (k m u r o : ℕ) → Is (legal (beside_of F) (part k m)) → line_grants (setting_of F) (roles_in F) (part k m) u r o ≡ (held F k u && (bit m o && F.permitted k r o))
  unfolding legal
  line-block k m u r o h =
      line-parts (setting_of F) (roles_in F) k m u r o
      ∙ same (any (λ q. (eqb q.role k && eqb (class_of (setting_of F) (roles_in F) q) m) && block_of (setting_of F) (roles_in F) q u r o) (parts (setting_of F) (roles_in F))) (held F k u && (bit m o && F.permitted k r o)) there back
    where
      named : (q : Part) → q.role ≡ k → class_of (setting_of F) (roles_in F) q ≡ m → block_of (setting_of F) (roles_in F) q u r o ≡ (held F k u && (bit m o && F.permitted k r o))
      named q a b = block_by_class q u r o ∙ ap₂ (λ (x y : ℕ). held F x u && (bit y o && F.permitted x r o)) a b

      there : Is (any (λ q. (eqb q.role k && eqb (class_of (setting_of F) (roles_in F) q) m) && block_of (setting_of F) (roles_in F) q u r o) (parts (setting_of F) (roles_in F))) → Is (held F k u && (bit m o && F.permitted k r o))
      there p =
          let t = any_out (λ q. (eqb q.role k && eqb (class_of (setting_of F) (roles_in F) q) m) && block_of (setting_of F) (roles_in F) q u r o) (parts (setting_of F) (roles_in F)) p in
          let names = and_l (eqb t.0.role k && eqb (class_of (setting_of F) (roles_in F) t.0) m) (block_of (setting_of F) (roles_in F) t.0 u r o) t.2 in
          sym (named t.0 (eqb-true t.0.role k (and_l (eqb t.0.role k) (eqb (class_of (setting_of F) (roles_in F) t.0) m) names)) (eqb-true (class_of (setting_of F) (roles_in F) t.0) m (and_r (eqb t.0.role k) (eqb (class_of (setting_of F) (roles_in F) t.0) m) names)))
          ∙ and_r (eqb t.0.role k && eqb (class_of (setting_of F) (roles_in F) t.0) m) (block_of (setting_of F) (roles_in F) t.0 u r o) t.2

      back : Is (held F k u && (bit m o && F.permitted k r o)) → Is (any (λ q. (eqb q.role k && eqb (class_of (setting_of F) (roles_in F) q) m) && block_of (setting_of F) (roles_in F) q u r o) (parts (setting_of F) (roles_in F)))
      back p =
          let t = any_out (λ q. eqb k q.role && eqb m (class_of (setting_of F) (roles_in F) q)) (parts (setting_of F) (roles_in F)) h in
          let a = eqb-true k t.0.role (and_l (eqb k t.0.role) (eqb m (class_of (setting_of F) (roles_in F) t.0)) t.2) in
          let b = eqb-true m (class_of (setting_of F) (roles_in F) t.0) (and_r (eqb k t.0.role) (eqb m (class_of (setting_of F) (roles_in F) t.0)) t.2) in
          any_in (λ q. (eqb q.role k && eqb (class_of (setting_of F) (roles_in F) q) m) && block_of (setting_of F) (roles_in F) q u r o) t.1
          (and_in (and_in (eq-eqb t.0.role k (sym a)) (eq-eqb (class_of (setting_of F) (roles_in F) t.0) m (sym b))) (named t.0 (sym a) (sym b) ∙ p))

  -- the role of a part is a role of the file
  role-within : (k m : ℕ) → Is (legal (beside_of F) (part k m)) → k < 32
  unfolding legal roles_in
  role-within k m h =
      let t = any_out (λ q. eqb k q.role && eqb m (class_of (setting_of F) (roles_in F) q)) (parts (setting_of F) (roles_in F)) h in
      let a = eqb-true k t.0.role (and_l (eqb k t.0.role) (eqb m (class_of (setting_of F) (roles_in F) t.0)) t.2) in
      let b : t.0.role < F.roles = (parts_out (setting_of F) (roles_in F) t.1).0 in
      let n = Z.few in
      omega arith

  holders-bit : (k u : ℕ) → k < 32 → u < 64 → bit (get_or (record_of F).holders k 0) u ≡ held F k u
  unfolding record_of record_with
  holders-bit k u hk hu = ap (λ (m : ℕ). bit m u) (table_get 32 (λ k. mask_of 64 (held F k)) k hk) ∙ bit_mask 64 (held F k) u hu

  permissions-bit : (k r o : ℕ) → k < 32 → r < 64 → o < most_operations → bit (get_or (permission_table F) (permission_at k o) 0) r ≡ F.permitted k r o
  unfolding permitted_on
  permissions-bit k r o hk hr ho = ap (λ (m : ℕ). bit m r) (row-shown F Z k o hk ho) ∙ bit_mask 64 (λ r. F.permitted k r o) r hr

  pub part-added : (ls : Lines) (k m : ℕ) → Is (legal (beside_of F) (part k m))
      → added_part F.operations (get_or (record_of F).holders k 0) (permission_table F) k m (grid_of F.operations (parts_grant (setting_of F) (roles_in F) ls)) ≡ grid_of F.operations (parts_grant (setting_of F) (roles_in F) (ls ++ (part k m ∷ [])))
  unfolding added_part updated permitted_to joined_word grid_of
  part-added ls k m h =
      table_ext (grid_cells F.operations) (λ i. cond (bit m (grid_operation i) && bit (get_or (record_of F).holders k 0) (grid_user i)) (mask_of 64 (λ r. bit (get_or (grid_of F.operations former) i 0) r || bit (get_or (permission_table F) (permission_at k (grid_operation i)) 0) r)) (get_or (grid_of F.operations former) i 0))
      (λ i. mask_of 64 (λ r. parts_grant (setting_of F) (roles_in F) (ls ++ (part k m ∷ [])) (grid_user i) r (grid_operation i)))
      (λ i l. added_mask (bit m (grid_operation i) && bit (get_or (record_of F).holders k 0) (grid_user i)) (get_or (grid_of F.operations former) i 0) (get_or (permission_table F) (permission_at k (grid_operation i)) 0)
      (λ r. former (grid_user i) r (grid_operation i)) (λ r. parts_grant (setting_of F) (roles_in F) (ls ++ (part k m ∷ [])) (grid_user i) r (grid_operation i))
      (table_get (grid_cells F.operations) (λ i. mask_of 64 (λ r. former (grid_user i) r (grid_operation i))) i l)
      (λ r lr. line-adds (setting_of F) (roles_in F) ls (part k m) (grid_user i) r (grid_operation i)
      ∙ ap (λ (b : Bool). former (grid_user i) r (grid_operation i) || b)
      (line-block k m (grid_user i) r (grid_operation i) h
      ∙ sym (ap₂ (λ (x y : Bool). (bit m (grid_operation i) && x) && y) (holders-bit k (grid_user i) (role-within k m h) (omega arith)) (permissions-bit k r (grid_operation i) (role-within k m h) lr (let n = Z.operable in omega (arith, l, n)))
      ∙ turned (bit m (grid_operation i)) (held F k (grid_user i)) (F.permitted k r (grid_operation i))))))
    where
      former : Block
      former = parts_grant (setting_of F) (roles_in F) ls

      turned : (a b c : Bool) → ((a && b) && c) ≡ (b && (a && c))
      turned true true c = refl
      turned true false c = refl
      turned false true c = refl
      turned false false c = refl

  -- what parts grant lies within the sizes
  pub parts_within : (ls : Lines) (u r o : ℕ) → Is (parts_grant (setting_of F) (roles_in F) ls u r o) → Triple (setting_of F) u r o
  unfolding parts_grant union part_block setting_of side_of
  parts_within ls u r o h =
      let t = any_out (λ p. part_block (setting_of F) (roles_in F) p u r o) (parts_in (setting_of F) (roles_in F) ls) h in
      let q = part_at (setting_of F) (roles_in F) t.0 in
      let b = sym (block_by_class q u r o) ∙ t.2 in
      let rest = and_r (held F q.role u) (bit (class_of (setting_of F) (roles_in F) q) o && F.permitted q.role r o) b in
      let p = Z.permits q.role r o (and_r (bit (class_of (setting_of F) (roles_in F) q) o) (F.permitted q.role r o) rest) in
      record { user = holder-within F Z q.role u (and_l (held F q.role u) (bit (class_of (setting_of F) (roles_in F) q) o && F.permitted q.role r o) b); resource = p.1; op = p.2 }
