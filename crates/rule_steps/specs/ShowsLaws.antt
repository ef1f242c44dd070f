-- What each step of the reader makes of the numbers and tables: they stand for the reading after it.
-- Assumes nothing.
use Rattle.std.specs.Prelude.{ℕ, ◌+◌, ◌*◌, ◌≤◌, ◌<◌, length, get_or, replicate, Bool, ◌||◌, ◌≡◌, Some}
use borrow.Author.Tests.{eqb-true, eqb-false, ne_eqb, ltb-true, lt-ltb, le-ltb}
use Rattle.std.proofs.Math.Dec.{eqb, ltb}
use Rattle.std.proofs.Math.ListN.{set}
use Rattle.std.proofs.Common.{length-append, ◌∙◌}
use Rattle.std.proofs.Math.Bool.{true, false, cond, ◌&&◌, not, and-false, and_comm, or-true, or-false, and-or_distrib_left}
use Rattle.std.proofs.lemmas.Bool.{false≢true}
use mathlib.Core.List.Memᴰ
use mathlib.Core.List.{List, [], ◌∷◌, ◌++◌}
use Rattle.std.proofs.Math.Logic.{⊎_elim}
use Rattle.std.proofs.Math.Option.{Option, none, some}
use Rattle.std.proofs.Math.Path.{refl, sym, ap, ap₂, subst}
use native.Mathlib.Omega.{arith}
use Rattle.role_record.specs.Places.{place_side, place_attribute, place_of}
use Rattle.role_record.specs.Record.{Sized, table_of, marked, known_table, value_table, permission_table, record_of}
use Rattle.rule_conjuncts.specs.SummaryLineLaws.{met-kept, asked-kept, NoValue, met-line, asked-line, atoms-line, atoms-kept, operations-line, operations-kept, met-none, asked-none, atoms-none}
use Rattle.rule_conjuncts.specs.Summary.{values_for, met_table, asked_places, atom_places, is_atom}
use Rattle.files.specs.Beside.{beside_of}
use Rattle.files.specs.Calls.{is_triple, rules_grant, parts_grant, first_stray_rule}
use Rattle.files.specs.RoleFile.{side_by}
use Rattle.files.proofs.LineLaws.{operations_or}
use Rattle.files.specs.RuleFile.{RuleCommand as Line, Lines, is_operations, is_part_line, is_level, operations_in, values_in, rule_in, whole, no_second, follows, legal, levelled, own_value, reshapes, opens, value, operations, link, part, level, ends}
use Rattle.grant_grids.specs.Grid.{grid_of}
use Rattle.grant_grids.proofs.GridLaws.{grid_same}
use Rattle.grant_grids.specs.Updates.{added_part}
use Rattle.rule_listings.specs.Listed.{seen_after, again_after, seen_table, again_table}
use Rattle.rule_listings.specs.ListedLaws.{other-line, empty-rule, no-rules, list_means}
use Rattle.rule_meeting.specs.Meeting.{meeting_of, count_by}
use Rattle.rule_meeting.specs.MeetingMeansLaws.{meeting_means}
use Rattle.grant_blocks.specs.Rows.{cell_of, added_rows, same_rows}
use Rattle.grant_blocks.specs.RowsLaws.{rows_added, rows_same}
use Rattle.grant_blocks.specs.PartGridLaws.{grid_kept, none-listed, part-added, parts_within}
use Rattle.policy.proofs.ClassLaws.{part_facts}
use Rattle.policy.proofs.OrderLaws.{Numbered}
use Rattle.policy.specs.Policy.{Policy, kind_of, is_set_at, side_of, setting_of, roles_in}
use Rattle.policy.specs.Roles.{parts, class_of}
use Rattle.policy.specs.Rules.{own, Which, by, Block, grants, rule_level, same_block, user, resource}
use Rattle.rule_commands.specs.CommandOrderLaws.{order-none}
use Rattle.rule_commands.specs.Raw.{InOrder, raw_before, command_of, link_meaning, rule_meaning, Shape, shape-opens, shape_user_single, shape_user_set, shape_resource_single, shape_resource_set, shape-operations, shape-link, shape-part, shape-level, shape-ends, Sided}
use Rattle.rule_grants.specs.RuleRows.{rule_rows}
use Rattle.rule_grants.specs.RuleRowsLaws.{rows_low, rows_grant}
use Rattle.rule_satisfaction.specs.Satisfaction.{Legal}
use Rattle.rule_grants.specs.SummaryLaws.{summary_means}
use Rattle.rule_levels.proofs.LevelLaws.{lines-level}
use Rattle.rule_levels.specs.Levels.{level_for, lists_own, lines_level}
use Rattle.rule_notes.specs.Tally.{begun_with, counted_with, open_rows, closed_with, may_close, is_second, follows_with, levelled_with}
use Rattle.rule_notes.specs.LineSteps.{place_by, pair_number, atom_number, tally_with, noted_with, met_more, met_after, PartWithin, listed_after, seen_by, again_by}
use Rattle.rule_steps.specs.Shows.{option_of, granted_within, Stored, Shows}
use Rattle.grant_grids.specs.Links.{links_of}
use Rattle.rule_steps.specs.StrayLaws.{or_else, strays, stray_more, grants-more}
use Rattle.sets.specs.ListLaws.{any_last}
use Rattle.sets.specs.SetLaws.{bit_mask}
use Rattle.sets.specs.Sets.{bit, mask_of}
use Rattle.sets.specs.Tests.{Is, iff, ◌is_in◌, any}
use Rattle.sets.specs.TestLaws.{and_in, and_l, and_r, test, iff-out, any_out, only_out}
use Rattle.rule_commands.specs.declared.Atom.{Atom}
use Rattle.rule_commands.specs.declared.Raw.{Raw}
use Rattle.rule_commands.specs.declared.RuleCommand.{RuleCommand}
use Rattle.rule_notes.specs.declared.Tally.{Tally}
use Rattle.rule_notes.specs.LineSteps.{met_with}
use Rattle.rule_commands.specs.declared.Atom.TheVariants.{SetContainsSet, SetContainsSingle, SingleEqualsSingle}
use Rattle.rule_commands.specs.declared.RuleCommand.TheVariants.{Opens, Value, Operations, Link, Part, Level, Ends}

-- ---- the beginning

one_of : {A : Type 0} (x : A) {y : A} → y is_in (x ∷ []) → y ≡ x
one_of x m = (only_out true m).1

module _ (F : Policy) where
  none-granted : (u r o : ℕ) → false ≡ granted_within F [] u r o
  unfolding granted_within rules_grant
  none-granted u r o = sym (and-false (is_triple (setting_of F) u r o))

  pub stored-begun : (grid : List ℕ) → grid ≡ grid_of F.operations (λ u r o. false) → Stored F [] begun_with grid (replicate 32 0) (replicate 32 0)
  unfolding begun_with first_stray_rule
  stored-begun grid e = record {
    all-legal = λ ls m. absurd (Memᴰ.not-nil m);
    grid_shown = e ∙ grid_same F.operations (λ u r o. false) (granted_within F []) (λ u r o hu hr ho. none-granted u r o);
    rules-counted = refl;
    stray_shown = refl;
    seen-shown = sym no-rules.0;
    again-shown = sym no-rules.1;
  }

  -- behind a 21, or before the first: a rule without lines
  pub shows-opened : (rules : List Lines) (k n : Tally) (met listed grid seen again : List ℕ) → Stored F rules k grid seen again → met ≡ table_of 14 (λ i. 0) → listed ≡ grid_of F.operations (λ u r o. false)
      → n.asked ≡ 0 → n.atoms ≡ 0 → n.operations ≡ 0 → n.listing ≡ false → n.telling ≡ false → n.last.byte ≡ 0x21 → n.rules ≡ k.rules → n.stray ≡ k.stray
      → Shows F rules [] n met listed grid seen again
  shows-opened rules k n met listed grid seen again s hm hl a b c d v e f h = record {
    all-legal = s.all-legal;
    legal_open = λ c m. absurd (Memᴰ.not-nil m);
    met-shown = hm ∙ sym (met-none (setting_of F));
    asked-shown = a ∙ sym (asked-none (setting_of F));
    atoms-shown = b ∙ sym atoms-none;
    operations-shown = c;
    listing-shown = d;
    telling-shown = v;
    ordered = order-none n.last e;
    listed-shown = hl ∙ none-listed (setting_of F) (roles_in F) F.operations;
    grid_shown = s.grid_shown;
    rules-counted = f ∙ s.rules-counted;
    stray_shown = h ∙ s.stray_shown;
    seen-shown = s.seen-shown ∙ (empty-rule rules).0;
    again-shown = s.again-shown ∙ (empty-rule rules).1;
  }

-- ---- closing the open rule

-- the first stray rule, counted on
counted-on : (k : Tally) (same : Bool) (x : Option ℕ) (n : ℕ) → k.stray ≡ option_of x → k.rules ≡ n
    → ((counted_with k same).rules ≡ n + 1) × ((counted_with k same).stray ≡ option_of (or_else x (cond (not same) (some n) none)))
unfolding counted_with
counted-on k true none n a c = (ap (λ (t : ℕ). t + 1) c, a)
counted-on k true (some x) n a c = (ap (λ (t : ℕ). t + 1) c, a)
counted-on k false none n a c = rw a (ap (λ (t : ℕ). t + 1) c, ap Some c)
counted-on k false (some x) n a c = rw a (ap (λ (t : ℕ). t + 1) c, refl)

module _ (F : Policy) (Z : Sized F) where
  -- what the open rule grants within the sizes
  abbrev own-grants : Lines → Block
  own-grants ls u r o = is_triple (setting_of F) u r o && grants (setting_of F) (rule_in (setting_of F) ls) u r o

  module _ (rules : List Lines) (ls : Lines) (k : Tally) (met listed grid seen again : List ℕ) (s : Shows F rules ls k met listed grid seen again) where
    abbrev own_rows : List ℕ
    own_rows = open_rows k met (links_of F) (F.table user).count (F.table resource).count

    rows_shown : own_rows ≡ rule_rows (met_table (setting_of F) ls) (asked_places (setting_of F) ls) (atom_places ls) (links_of F) (F.table user).count (F.table resource).count
    unfolding open_rows
    rows_shown = rw (s.met-shown, s.asked-shown, s.atoms-shown) refl

    -- its rows, at its operations, say what it grants
    rows_mean : (u r o : ℕ) → u < 64 → r < 64 → o < F.operations → bit (cell_of own_rows k.operations u o) r ≡ own-grants ls u r o
    rows_mean u r o hu hr ho =
        ap₂ (λ (t : List ℕ) (m : ℕ). bit (cell_of t m u o) r) rows_shown s.operations-shown
        ∙ rows_grant (met_table (setting_of F) ls) (asked_places (setting_of F) ls) (atom_places ls) (links_of F) (F.table user).count (F.table resource).count (operations_in ls) u r o hu
        ∙ summary_means F Z ls s.legal_open u r o hu hr

    compared : same_rows F.operations own_rows k.operations listed ≡ same_block (setting_of F) (grants (setting_of F) (rule_in (setting_of F) ls)) (parts_grant (setting_of F) (roles_in F) ls)
    unfolding open_rows setting_of side_of
    compared =
        rows_same (setting_of F) F.operations own_rows k.operations (grants (setting_of F) (rule_in (setting_of F) ls)) (parts_grant (setting_of F) (roles_in F) ls) (Z.many user) (Z.many resource) refl
        (rows_low met k.asked k.atoms (links_of F) (F.table user).count (F.table resource).count) rows_mean (parts_within F Z ls) listed s.listed-shown

    joined-shown : added_rows F.operations own_rows k.operations grid ≡ grid_of F.operations (granted_within F (rules ++ (ls ∷ [])))
    unfolding granted_within
    joined-shown =
        ap (added_rows F.operations own_rows k.operations) s.grid_shown
        ∙ rows_added F.operations own_rows k.operations (own-grants ls) (granted_within F rules) rows_mean
        ∙ grid_same F.operations (λ u r o. granted_within F rules u r o || own-grants ls u r o) (granted_within F (rules ++ (ls ∷ [])))
        (λ u r o hu hr ho. sym (and-or_distrib_left (is_triple (setting_of F) u r o) (rules_grant (setting_of F) rules u r o) (grants (setting_of F) (rule_in (setting_of F) ls) u r o)) ∙ ap (λ (b : Bool). is_triple (setting_of F) u r o && b) (sym (grants-more (setting_of F) (roles_in F) rules ls u r o)))

    abbrev closed_same : Bool
    closed_same = same_rows F.operations own_rows k.operations listed

    one_more_lem : first_stray_rule (setting_of F) (roles_in F) (rules ++ (ls ∷ [])) ≡ or_else (first_stray_rule (setting_of F) (roles_in F) rules) (cond (not closed_same) (some (length rules)) none)
    unfolding strays
    one_more_lem = stray_more (setting_of F) (roles_in F) rules ls ∙ ap (λ (b : Bool). or_else (first_stray_rule (setting_of F) (roles_in F) rules) (cond (not b) (some (length rules)) none)) (sym compared)

    counted : ((counted_with k closed_same).rules ≡ length rules + 1)
        × ((counted_with k closed_same).stray ≡ option_of (or_else (first_stray_rule (setting_of F) (roles_in F) rules) (cond (not closed_same) (some (length rules)) none)))
    counted = counted-on k closed_same (first_stray_rule (setting_of F) (roles_in F) rules) (length rules) s.stray_shown s.rules-counted

    -- THE LAW of closing
    pub stored-closed : Stored F (rules ++ (ls ∷ [])) (closed_with k met listed (links_of F) (F.table user).count (F.table resource).count F.operations) (added_rows F.operations own_rows k.operations grid) seen again
    unfolding closed_with
    stored-closed = record {
      all-legal = λ t m. ⊎_elim (λ i. s.all-legal t i) (λ i. subst (Legal (beside_of F)) (sym (one_of ls i)) s.legal_open) (Memᴰ.append_cases rules m);
      grid_shown = joined-shown;
      rules-counted = counted.0 ∙ sym (length-append rules (ls ∷ []));
      stray_shown = counted.1 ∙ ap option_of (sym one_more_lem);
      seen-shown = s.seen-shown;
      again-shown = s.again-shown;
    }

    -- no rule is open: a rule without lines adds nothing
    pub stored-outside : ls ≡ [] → Stored F rules k grid seen again
    stored-outside e = record {
      all-legal = s.all-legal;
      grid_shown = s.grid_shown;
      rules-counted = s.rules-counted;
      stray_shown = s.stray_shown;
      seen-shown = s.seen-shown ∙ ap (λ (t : Lines). seen_table (rules ++ (t ∷ []))) e ∙ sym (empty-rule rules).0;
      again-shown = s.again-shown ∙ ap (λ (t : Lines). again_table (rules ++ (t ∷ []))) e ∙ sym (empty-rule rules).1;
    }

-- ---- a line of the open rule

-- a legal line's attribute has a place, and its kind is the one that the line says
module _ (F : Policy) (Z : Sized F) (side : ℕ) (kind : Bool) (a v : ℕ) (hs : side < 2) (h : Is (legal (beside_of F) (value (side_by side) kind a v))) where
  value-declared : eqb a own ≡ false → Is (ltb a (length (F.table (side_by side)).kinds) && iff (is_set_at F (side_by side) a) kind)
  unfolding legal setting_of side_of
  value-declared e = rw e at h

  value-placed : (a ≡ own → ⊥) → a < 6
  value-placed n =
      let l = ltb-true a (length (F.table (side_by side)).kinds) (and_l (ltb a (length (F.table (side_by side)).kinds)) _ (value-declared (ne_eqb a own n))) in
      let m = Z.declared (side_by side) in
      omega arith

  own_kind : (w : Which) (set : Bool) → Is (own_value (setting_of F) (roles_in F) w set v) → by w true false ≡ set
  own_kind user true q = refl
  own_kind user false q = absurd (false≢true q)
  own_kind resource true q = absurd (false≢true q)
  own_kind resource false q = refl

  own-legal : eqb a own ≡ true → Is (own_value (setting_of F) (roles_in F) (side_by side) kind v)
  unfolding legal
  own-legal e = rw e at h

  value_kind : ((setting_of F).side (side_by side)).is_set a ≡ kind
  unfolding setting_of side_of is_set_at
  value_kind = test (eqb a own) (λ e. rw e (own_kind (side_by side) kind (own-legal e))) (λ e. rw e (kind_declared e))
    where
      kind_declared : eqb a own ≡ false → kind_of (F.table (side_by side)) a ≡ kind
      kind_declared e = sym (ap (λ (b : Bool). cond b (by (side_by side) true false) (kind_of (F.table (side_by side)) a)) e) ∙ iff-out (is_set_at F (side_by side) a) kind (and_r (ltb a (length (F.table (side_by side)).kinds)) _ (value-declared e))

  value-place : place_by side a ≡ place_of side a
  unfolding place_by
  value-place =
      test (eqb a own)
      (λ e. rw e (ap (λ (b : Bool). cond b (7 * side + a) (7 * side + 6)) (le-ltb a 6 (let z = eqb-true a own e in omega arith))))
      (λ e. rw e (ap (λ (b : Bool). cond b (7 * side + a) (7 * side + 6)) (lt-ltb a 6 (value-placed (eqb-false a own e)))))

  module _ (ls : Lines) where
    met-after : met_more (met_table (setting_of F) ls) (place_by side a) (meeting_of side kind a v (F.table (side_by side)).count F.roles (known_table F) (value_table F) (record_of F).holders) ≡ met_table (setting_of F) (ls ++ (value (side_by side) kind a v ∷ []))
    unfolding met_more setting_of side_of
    met-after =
        ap₂ (λ (i who : ℕ). set (met_table (setting_of F) ls) i (mask_of 64 (λ k. bit (get_or (met_table (setting_of F) ls) i 0) k || bit who k))) value-place (meeting_means F Z side kind a v hs h)
        ∙ met-line side a hs value-placed (setting_of F) ls kind v value_kind (Z.many (side_by side))

    asked-after : marked (asked_places (setting_of F) ls) (place_by side a) ≡ asked_places (setting_of F) (ls ++ (value (side_by side) kind a v ∷ []))
    unfolding setting_of side_of
    asked-after = ap (marked (asked_places (setting_of F) ls)) value-place ∙ asked-line side a hs value-placed (setting_of F) ls kind v value_kind (Z.many (side_by side))

module _ (F : Policy) (Z : Sized F) (a b : ℕ) (h : Is (legal (beside_of F) (link a b))) where
  link-low : (a < 6) × (b < 6)
  unfolding legal setting_of side_of
  link-low =
      let la = ltb-true a (length (F.table user).kinds) (and_l (ltb a (length (F.table user).kinds)) _ h) in
      let lb = ltb-true b (length (F.table resource).kinds) (and_l (ltb b (length (F.table resource).kinds)) _ (and_r (ltb a (length (F.table user).kinds)) _ h)) in
      let ma = Z.declared user in
      let mb = Z.declared resource in
      (omega arith, omega arith)

  pair-placed : pair_number a b ≡ 6 * a + b
  unfolding pair_number
  pair-placed = rw (lt-ltb a 6 link-low.0, lt-ltb b 6 link-low.1) refl

module _ (F : Policy) (Z : Sized F) where
  -- a legal part's role has a place in the tables
  pub part-within : (c : RuleCommand) → Is (legal (beside_of F) (rule_meaning c)) → PartWithin c
  unfolding PartWithin legal roles_in
  part-within Opens h = tt
  part-within (Value v) h = tt
  part-within (Operations m) h = tt
  part-within (Link t) h = tt
  part-within (Part k m) h =
      let q = any_out (λ p. eqb k p.role && eqb m (class_of (setting_of F) (roles_in F) p)) (parts (setting_of F) (roles_in F)) h in
      let l = (part_facts (setting_of F) (roles_in F) q.1).in_roles in
      let n = Z.few in
      let e = eqb-true k q.0.role (and_l (eqb k q.0.role) _ q.2) in
      omega arith
  part-within (Level l) h = tt
  part-within Ends h = tt

  module _ (rules : List Lines) (ls : Lines) (k : Tally) (met listed grid seen again : List ℕ) (s : Shows F rules ls k met listed grid seen again) where
    -- ---- where commands may stand

    some-operations : (m : ℕ) → Is (legal (beside_of F) (operations m)) → true ≡ not (eqb m 0)
    unfolding legal
    some-operations m q = ap not (sym (ne_eqb m 0 (let l = ltb-true 0 m (and_l (ltb 0 m) _ q) in λ z. omega arith)))

    -- a 26 is there if there are operations: a legal one is not zero
    operations-there : (t : Lines) → Legal (beside_of F) t → any is_operations t ≡ not (eqb (operations_in t) 0)
    operations-there [] h = refl
    operations-there (c ∷ t) h = one c (h c (Memᴰ.head refl)) (operations-there t (λ d m. h d (Memᴰ.tail m)))
      where
        one : (c : Line) → Is (legal (beside_of F) c) → any is_operations t ≡ not (eqb (operations_in t) 0) → (is_operations c || any is_operations t) ≡ not (eqb (operations_or c (operations_in t)) 0)
        one reshapes q e = e
        one opens q e = e
        one (value w x a v) q e = e
        one (operations m) q e = some-operations m q
        one (link a b) q e = e
        one (part j m) q e = e
        one (level l) q e = e
        one ends q e = e

    has-operations : any is_operations ls ≡ not (eqb k.operations 0)
    has-operations = operations-there ls s.legal_open ∙ ap (λ (m : ℕ). not (eqb m 0)) (sym s.operations-shown)

    pub may_close_means : k.inside ≡ true → may_close k ≡ whole ls
    unfolding may_close whole
    may_close_means e = rw e (ap₂ ◌&&◌ (sym has-operations) (ap₂ ◌&&◌ s.listing-shown s.telling-shown))

    is-operations : {a : Raw} → Shape a → is_operations (command_of a) ≡ eqb a.byte 0x26
    unfolding command_of
    is-operations shape-opens = refl
    is-operations (shape_user_single a v) = refl
    is-operations (shape_user_set a v) = refl
    is-operations (shape_resource_single a v) = refl
    is-operations (shape_resource_set a v) = refl
    is-operations (shape-operations m) = refl
    is-operations (shape-link a b) = refl
    is-operations (shape-part j m) = refl
    is-operations (shape-level l) = refl
    is-operations shape-ends = refl

    is-level : {a : Raw} → Shape a → is_level (command_of a) ≡ eqb a.byte 0x29
    unfolding command_of
    is-level shape-opens = refl
    is-level (shape_user_single a v) = refl
    is-level (shape_user_set a v) = refl
    is-level (shape_resource_single a v) = refl
    is-level (shape_resource_set a v) = refl
    is-level (shape-operations m) = refl
    is-level (shape-link a b) = refl
    is-level (shape-part j m) = refl
    is-level (shape-level l) = refl
    is-level shape-ends = refl

    -- neither of two
    neither : (p q r : Bool) → (not (p || q) && r) ≡ (r && (not p && not q))
    neither true q true = refl
    neither true q false = refl
    neither false true true = refl
    neither false true false = refl
    neither false false true = refl
    neither false false false = refl

    pub follows_means : (a : Raw) → k.inside ≡ true → Shape a → 0x22 ≤ a.byte → a.byte ≤ 0x29 → follows_with k a ≡ follows ls (command_of a)
    unfolding follows_with is_second follows
    follows_means a e t l m =
        rw e (neither (eqb a.byte 0x26 && not (eqb k.operations 0)) (eqb a.byte 0x29 && k.telling) (raw_before k.last a)
        ∙ ap₂ (λ (p q : Bool). p && q) (sym (s.ordered a t l m))
        (ap₂ (λ (p q : Bool). not p && not q) (sym (ap₂ ◌&&◌ (is-operations t) has-operations)) (ap₂ ◌&&◌ (sym (is-level t)) s.telling-shown)))

    -- ---- the level that it tells

    -- the places of the 255s that have values
    own-asked : (i : ℕ) (w : Which) → i < 14 → place_side i ≡ w → place_attribute i ≡ own → bit k.asked i ≡ lists_own (setting_of F) ls w
    unfolding asked_places values_for lists_own
    own-asked i w l p q =
        ap (λ (m : ℕ). bit m i) s.asked-shown ∙ bit_mask 14 (λ i. ltb 0 (length (values_for (setting_of F) ls i))) i l
        ∙ ap₂ (λ (v : Which) (a : ℕ). ltb 0 (length (values_in (setting_of F) ls v a))) p q

    numbered : (w : Which) → Numbered ((setting_of F).side w)
    unfolding setting_of side_of
    numbered w = let d = Z.declared w in omega arith

    open_level : level_for (bit k.asked 6) (bit k.asked 13) ≡ rule_level (setting_of F) (rule_in (setting_of F) ls)
    unfolding lines_level
    open_level =
        ap₂ level_for (own-asked 6 user (omega arith) refl refl) (own-asked 13 resource (omega arith) refl refl)
        ∙ lines-level (beside_of F) numbered ls s.legal_open

    pub levelled_means : {a : Raw} → Shape a → levelled_with k a ≡ levelled (beside_of F) ls (command_of a)
    unfolding levelled_with levelled command_of
    levelled_means shape-opens = refl
    levelled_means (shape_user_single a v) = refl
    levelled_means (shape_user_set a v) = refl
    levelled_means (shape_resource_single a v) = refl
    levelled_means (shape_resource_set a v) = refl
    levelled_means (shape-operations m) = refl
    levelled_means (shape-link a b) = refl
    levelled_means (shape-part j m) = refl
    levelled_means (shape-level l) = ap (eqb l) open_level
    levelled_means shape-ends = refl

    -- ---- the line itself

    module _ (line : Raw) where
      assembled : (c : Line) → Is (legal (beside_of F) c) → InOrder line (ls ++ (c ∷ []))
          → (asks joins acts : ℕ) (lists tells : Bool) (met₁ listed₁ seen₁ again₁ : List ℕ)
          → met₁ ≡ met_table (setting_of F) (ls ++ (c ∷ [])) → asks ≡ asked_places (setting_of F) (ls ++ (c ∷ [])) → joins ≡ atom_places (ls ++ (c ∷ [])) → acts ≡ operations_in (ls ++ (c ∷ []))
          → lists ≡ any is_part_line (ls ++ (c ∷ [])) → tells ≡ any is_level (ls ++ (c ∷ [])) → listed₁ ≡ grid_of F.operations (parts_grant (setting_of F) (roles_in F) (ls ++ (c ∷ [])))
          → seen₁ ≡ seen_table (rules ++ ((ls ++ (c ∷ [])) ∷ [])) → again₁ ≡ again_table (rules ++ ((ls ++ (c ∷ [])) ∷ []))
          → Shows F rules (ls ++ (c ∷ [])) (tally_with k asks joins acts lists tells line) met₁ listed₁ grid seen₁ again₁
      assembled c h o asks joins acts lists tells met₁ listed₁ seen₁ again₁ e1 e2 e3 e4 e5 e e6 e7 e8 = record {
        all-legal = s.all-legal;
        legal_open = λ d m. ⊎_elim (λ i. s.legal_open d i) (λ i. subst (λ (t : Line). Is (legal (beside_of F) t)) (sym (one_of c i)) h) (Memᴰ.append_cases ls m);
        met-shown = e1;
        asked-shown = e2;
        atoms-shown = e3;
        operations-shown = e4;
        listing-shown = e5;
        telling-shown = e;
        ordered = o;
        listed-shown = e6;
        grid_shown = s.grid_shown;
        rules-counted = s.rules-counted;
        stray_shown = s.stray_shown;
        seen-shown = e7;
        again-shown = e8;
      }

      -- what a line leaves as it was
      met-same : (c : Line) → NoValue c → met ≡ met_table (setting_of F) (ls ++ (c ∷ []))
      met-same c h = s.met-shown ∙ met-kept (setting_of F) ls c h

      asked-same : (c : Line) → NoValue c → k.asked ≡ asked_places (setting_of F) (ls ++ (c ∷ []))
      asked-same c h = s.asked-shown ∙ asked-kept (setting_of F) ls c h

      atoms-same : (c : Line) → ((i : ℕ) → is_atom i c ≡ false) → k.atoms ≡ atom_places (ls ++ (c ∷ []))
      atoms-same c h = s.atoms-shown ∙ atoms-kept ls c h

      operations-same : (c : Line) → ((n : ℕ) → operations_or c n ≡ n) → k.operations ≡ operations_in (ls ++ (c ∷ []))
      operations-same c h = s.operations-shown ∙ sym (operations-kept ls c h)

      listing-same : (c : Line) → is_part_line c ≡ false → k.listing ≡ any is_part_line (ls ++ (c ∷ []))
      listing-same c h = s.listing-shown ∙ sym (any_last is_part_line ls c ∙ ap (λ (t : Bool). any is_part_line ls || t) h ∙ or-false (any is_part_line ls))

      telling-same : (c : Line) → is_level c ≡ false → k.telling ≡ any is_level (ls ++ (c ∷ []))
      telling-same c h = s.telling-shown ∙ sym (any_last is_level ls c ∙ ap (λ (t : Bool). any is_level ls || t) h ∙ or-false (any is_level ls))

      listed_same : (c : Line) → is_part_line c ≡ false → listed ≡ grid_of F.operations (parts_grant (setting_of F) (roles_in F) (ls ++ (c ∷ [])))
      listed_same c h = s.listed-shown ∙ sym (grid_kept (setting_of F) (roles_in F) F.operations ls c h)

      seen_same : (c : Line) → is_part_line c ≡ false → seen ≡ seen_table (rules ++ ((ls ++ (c ∷ [])) ∷ []))
      seen_same c h = s.seen-shown ∙ (other-line rules ls c h).0

      again-same : (c : Line) → is_part_line c ≡ false → again ≡ again_table (rules ++ ((ls ++ (c ∷ [])) ∷ []))
      again-same c h = s.again-shown ∙ (other-line rules ls c h).1

      -- a line of an attribute's value
      value_line_lem : (side : ℕ) (kind : Bool) (a v : ℕ) → side < 2 → Is (legal (beside_of F) (value (side_by side) kind a v)) → InOrder line (ls ++ (value (side_by side) kind a v ∷ []))
          → Shows F rules (ls ++ (value (side_by side) kind a v ∷ [])) (tally_with k (marked k.asked (place_by side a)) k.atoms k.operations k.listing k.telling line)
          (met_more met (place_by side a) (meeting_of side kind a v (F.table (side_by side)).count F.roles (known_table F) (value_table F) (record_of F).holders)) listed grid seen again
      value_line_lem side kind a v hs h o =
          let c = value (side_by side) kind a v in
          assembled c h o _ _ _ _ _ _ _ _ _
          (ap (λ (t : List ℕ). met_more t (place_by side a) (meeting_of side kind a v (F.table (side_by side)).count F.roles (known_table F) (value_table F) (record_of F).holders)) s.met-shown ∙ met-after F Z side kind a v hs h ls)
          (ap (λ (t : ℕ). marked t (place_by side a)) s.asked-shown ∙ asked-after F Z side kind a v hs h ls)
          (atoms-same c (λ i. refl)) (operations-same c (λ n. refl)) (listing-same c refl) (telling-same c refl) (listed_same c refl) (seen_same c refl) (again-same c refl)

      -- a line of an atom
      link-line : (a j : ℕ) → Is (legal (beside_of F) (link a j)) → InOrder line (ls ++ (link a j ∷ []))
          → Shows F rules (ls ++ (link a j ∷ [])) (tally_with k k.asked (marked k.atoms (pair_number a j)) k.operations k.listing k.telling line) met listed grid seen again
      link-line a j h o =
          let c = link a j in
          assembled c h o _ _ _ _ _ _ _ _ _ (met-same c (λ w t i. refl)) (asked-same c (λ w t i. refl))
          (ap₂ marked s.atoms-shown (pair-placed F Z a j h) ∙ atoms-line ls a j (link-low F Z a j h).0 (link-low F Z a j h).1)
          (operations-same c (λ n. refl)) (listing-same c refl) (telling-same c refl) (listed_same c refl) (seen_same c refl) (again-same c refl)

      -- a line that changes nothing
      idle_line : (c : Line) → Is (legal (beside_of F) c) → InOrder line (ls ++ (c ∷ [])) → NoValue c → ((i : ℕ) → is_atom i c ≡ false) → ((n : ℕ) → operations_or c n ≡ n) → is_part_line c ≡ false → is_level c ≡ false
          → Shows F rules (ls ++ (c ∷ [])) (tally_with k k.asked k.atoms k.operations k.listing k.telling line) met listed grid seen again
      idle_line c h o p q r t v =
          assembled c h o _ _ _ _ _ _ _ _ _ (met-same c p) (asked-same c p) (atoms-same c q) (operations-same c r) (listing-same c t) (telling-same c v) (listed_same c t) (seen_same c t) (again-same c t)

      linked : (t : Atom) → Is (legal (beside_of F) (link_meaning t)) → InOrder line (ls ++ (link_meaning t ∷ []))
          → Shows F rules (ls ++ (link_meaning t ∷ [])) (tally_with k k.asked (marked k.atoms (atom_number t)) k.operations k.listing k.telling line) met listed grid seen again
      unfolding atom_number
      linked (SetContainsSet a j) h o = link-line a j h o
      linked (SetContainsSingle a j) h o = link-line a j h o
      linked (SingleEqualsSingle a j) h o = link-line a j h o

      count-shown : (side : ℕ) → count_by side (F.table user).count (F.table resource).count ≡ (F.table (side_by side)).count
      count-shown side = test (eqb side 0) (λ e. rw e refl) (λ e. rw e refl)

      -- THE LAW of a line
      pub shows-line : (c : RuleCommand) → Sided c → Is (legal (beside_of F) (rule_meaning c)) → InOrder line (ls ++ (rule_meaning c ∷ [])) → (is_operations (rule_meaning c) ≡ true → any is_operations ls ≡ false)
          → Shows F rules (ls ++ (rule_meaning c ∷ [])) (noted_with k c line)
          (met_after (F.table user).count (F.table resource).count F.roles (known_table F) (value_table F) (record_of F).holders met c)
          (listed_after F.operations (record_of F).holders (permission_table F) listed c) grid (seen_by seen c) (again_by seen again c)
      unfolding noted_with met_after met_with listed_after seen_by again_by Sided
      shows-line Opens q h o n = idle_line opens h o (λ w t i. refl) (λ i. refl) (λ m. refl) refl refl
      shows-line (Value v) q h o n =
          subst
          (λ (m : ℕ). Shows F rules (ls ++ (rule_meaning (Value v) ∷ [])) (noted_with k (Value v) line)
          (met_more met (place_by v.side v.attribute) (meeting_of v.side v.set v.attribute v.value m F.roles (known_table F) (value_table F) (record_of F).holders)) listed grid seen again)
          (sym (count-shown v.side)) (value_line_lem v.side v.set v.attribute v.value q h o)
      shows-line (Operations m) q h o n =
          let c = operations m in
          assembled c h o _ _ _ _ _ _ _ _ _ (met-same c (λ w t i. refl)) (asked-same c (λ w t i. refl)) (atoms-same c (λ i. refl)) (sym (operations-line ls m (n refl))) (listing-same c refl) (telling-same c refl) (listed_same c refl) (seen_same c refl) (again-same c refl)
      shows-line (Link t) q h o n = linked t h o
      shows-line (Part j m) q h o n =
          let c = part j m in
          let t = list_means F Z rules ls j m h in
          assembled c h o _ _ _ _ _ _ _ _ _ (met-same c (λ w t i. refl)) (asked-same c (λ w t i. refl)) (atoms-same c (λ i. refl)) (operations-same c (λ n. refl))
          (sym (any_last is_part_line ls c ∙ or-true (any is_part_line ls))) (telling-same c refl)
          (ap (added_part F.operations (get_or (record_of F).holders j 0) (permission_table F) j m) s.listed-shown ∙ part-added F Z ls j m h)
          (ap (λ (u : List ℕ). seen_after u j m) s.seen-shown ∙ t.0)
          (ap₂ (λ (u w : List ℕ). again_after u w j m) s.seen-shown s.again-shown ∙ t.1)
      shows-line (Level l) q h o n =
          let c = level l in
          assembled c h o _ _ _ _ _ _ _ _ _ (met-same c (λ w t i. refl)) (asked-same c (λ w t i. refl)) (atoms-same c (λ i. refl)) (operations-same c (λ n. refl)) (listing-same c refl)
          (sym (any_last is_level ls c ∙ or-true (any is_level ls))) (listed_same c refl) (seen_same c refl) (again-same c refl)
      shows-line Ends q h o n = idle_line ends h o (λ w t i. refl) (λ i. refl) (λ m. refl) refl refl
