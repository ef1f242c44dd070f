-- What is written from the tables of a policy's record and a group's words is the group's rule, and what it costs is that rule's cost.
-- Assumes nothing.
use Rattle.std.specs.Prelude.{ℕ, zero, suc, ◌+◌, ◌-◌, ◌^◌, ◌≤◌, ◌<◌, length, Bool, ◌&&◌, not, ◌≡◌}
use Rattle.std.proofs.Common.{eqb-true, eq-eqb, lt-ltb, ◌∙◌, subst, arith}
use Rattle.std.proofs.Math.Dec.{eqb, ltb}
use Rattle.std.proofs.Math.ListN.{get_or}
use Rattle.std.proofs.Math.Bool.{true, false, cond}
use mathlib.Core.List.{List, [], ◌∷◌, ◌++◌, map}
use Rattle.std.proofs.Math.Path.{refl, sym, ap, ap₂}
use Rattle.mine_distinct.specs.InsideValues.{distinct_in, having_in, inside_in}
use Rattle.mine_distinct.specs.DistinctLaws.{listed_by_lem}
use Rattle.files.specs.Bytes.{spread}
use Rattle.files.specs.RuleFile.{Lines, encode, opens, all_lines, lines_of}
use Rattle.mine_theory.specs.Search.Frontier.{Groups}
use Rattle.grant_parts.specs.PartTableLaws.{class_shown}
use Rattle.role_record.specs.Places.{place_side, place_attribute, set_place}
use Rattle.role_record.specs.PlacesLaws.{set_means}
use Rattle.role_record.specs.Record.{Sized, record_of}
use Rattle.policy.specs.Cost.{side_cost}
use Rattle.policy.specs.Covering.{all_know, level_of}
use Rattle.policy.proofs.MergeLaws.{Every}
use Rattle.policy.specs.Merging.{union}
use Rattle.policy.specs.Policy.{Policy, setting_of, roles_in}
use Rattle.policy.proofs.PolicyLaws.{lawful}
use Rattle.policy.specs.Mined.{part_at, group_block, rule_of}
use Rattle.policy.specs.Roles.{Part, class_of}
use Rattle.policy.specs.Rules.{Which, by, Setting, Block, attrs_of, own_at, same_block, user, resource, conjunct}
use Rattle.mine_theory.proofs.Lines.PartLinesLaws.{parts_sorted}
use Rattle.mine_theory.proofs.Lines.RuleBytesLaws.{parts-bytes, place_bytes, rule-bytes, place_cost, rule-side, rule-atoms}
use Rattle.mine_theory.specs.Lines.RuleLines.{value_bytes, part_bytes, level_bytes, atom_set, kind_place, written_values, rule_lines, of_role, part_lines_of}
use Rattle.mine_theory.proofs.Lines.RuleLinesLaws.{written-conjunct, place-side, place-below}
use Rattle.sets.specs.ListLaws.{each_ext, sum_ext, sort-same}
use Rattle.sets.specs.MaskLaws.{mask_lt, bit-mask_of}
use Rattle.sets.specs.SetLaws.{bit_mask}
use Rattle.sets.specs.Sets.{bit, mask_of, size}
use Rattle.sets.specs.Sorted.{sort}
use Rattle.sets.specs.SortedLaws.{numbers}
use Rattle.sets.specs.TestLaws.{and_l, and_r, keep_in, keep_out, from_in, from_out, up_to-out, elem_in, elem_out, map_in, map-out}
use Rattle.sets.specs.Tests.{Is, iff, ◌is_in◌, each, up_to, elem, sum}
use Rattle.mine_parts.specs.Layout.{role_at, lead_at, words_at}
use Rattle.mine_groups.specs.Scratch.{blocks_of, ShowsGroups, Started}
use Rattle.mine_theory.specs.Words.Flags.{has_at, places_grant, thinned_at, thinned_to, kept_places}
use Rattle.mine_theory.proofs.Words.FlagLaws.{written_ops_words}
use Rattle.mine_theory.proofs.Words.WordLaws.{roomy}
use Rattle.write_cost.specs.CostSumLaws.{sums_same}
use Rattle.write_cost.specs.CostSums.{rule_sums}
use Rattle.mine_theory.specs.Words.Words.{Words, members_of, words_of, spans}
use Rattle.write_theory.specs.RuleLists.{listed_at, parts_of, class_at, in_group, parts_at, classes_at, place_cost_in, side_cost_in, rule_sums_in}
use Rattle.write_theory.specs.RuleTable.{kept_as, place_bytes_in, kind_bytes_in, atom_bytes_at, atom_bytes_in, role_bytes_in, part_bytes_in, level_bytes_in, rule_bytes_in}
use Rattle.mine_matches.specs.ValueMeansLaws.{values_in, least_means, values-place, members_valued}
use Rattle.grant_listed.specs.Values.{lists_least, listed_of}

-- ---- what thinning keeps was there

thinned-within : (P : Setting) (W : Words) (m n i : ℕ) → Is (bit (thinned_to P W m n) i) → Is (bit m i)
unfolding thinned_at
thinned-within P W m zero i h = h
thinned-within P W m (suc n) i h = thinned-within P W m n i (go (bit (thinned_to P W m n) n && same_block P (places_grant P W (mask_of 64 (λ k. bit (thinned_to P W m n) k && not (eqb k n)))) (spans P W)) h)
  where
    go : (b : Bool) → Is (bit (cond b (mask_of 64 (λ k. bit (thinned_to P W m n) k && not (eqb k n))) (thinned_to P W m n)) i) → Is (bit (thinned_to P W m n) i)
    go true q = and_l (bit (thinned_to P W m n) i) (not (eqb i n)) (and_r (ltb i 64) (bit (thinned_to P W m n) i && not (eqb i n)) (sym (bit-mask_of 64 (λ k. bit (thinned_to P W m n) k && not (eqb k n)) i) ∙ q))
    go false q = q

kept-known : (P : Setting) (W : Words) (l i : ℕ) → i < 14 → Is (bit (kept_places P W l) i) → Is (all_know (P.side (place_side i)) (bit (members_of W (place_side i))) (place_attribute i))
unfolding kept_places has_at
kept-known P W l i h k =
    let t = sym (bit_mask 50 (has_at P W l) i (omega arith)) ∙ thinned-within P W (mask_of 50 (has_at P W l)) 50 i k in
    go (ltb i 14) (lt-ltb i 14 h) t
  where
    go : (b : Bool) → Is b
        → Is (cond b (elem (place_attribute i) (attrs_of (P.side (place_side i)) (own_at (place_side i) l)) && all_know (P.side (place_side i)) (bit (members_of W (place_side i))) (place_attribute i)) (bit W.atoms (i - 14)))
        → Is (all_know (P.side (place_side i)) (bit (members_of W (place_side i))) (place_attribute i))
    go b e t = and_r (elem (place_attribute i) (attrs_of (P.side (place_side i)) (own_at (place_side i) l))) _ (rw e at t)

members-within : (P : Setting) (B : Block) (w : Which) → members_of (words_of P B) w < 2 ^ (P.side w).count
unfolding words_of
members-within P B user = mask_lt (P.side user).count _
members-within P B resource = mask_lt (P.side resource).count _

lists-same : (w : Which) (a : ℕ) (xs ys : List ℕ) → conjunct w a xs ≡ conjunct w a ys → xs ≡ ys
lists-same w a xs ys e = cc

module _ (F : Policy) (Z : Sized F) where
  module _ (parts : ℕ) (starts t : List ℕ) (begun : Started parts t starts) (s : Groups (List ℕ)) (shows : ShowsGroups F parts t s) (head : ℕ) (low : head < parts) (alive : Is (s.alive head)) (kept : ℕ)
      (k : kept ≡ kept_places (setting_of F) (words_at t head) (level_of (setting_of F) (union (setting_of F) (blocks_of F) (s.group head)))) where
    -- the triples of the group, and its words
    abbrev block : Block
    block = union (setting_of F) (blocks_of F) (s.group head)

    words : words_at t head ≡ words_of (setting_of F) block
    words = shows.words head low alive

    kept-places : kept ≡ kept_places (setting_of F) (words_of (setting_of F) block) (level_of (setting_of F) block)
    kept-places = k ∙ ap (λ (W : Words). kept_places (setting_of F) W (level_of (setting_of F) block)) words

    -- the members know the attribute of a place that is kept
    known-there : (i : ℕ) → i < 14 → Is (bit kept i) → Is (all_know ((setting_of F).side (place_side i)) (bit (members_of (words_of (setting_of F) block) (place_side i))) (place_attribute i))
    known-there i hi b = kept-known (setting_of F) (words_of (setting_of F) block) (level_of (setting_of F) block) i hi (ap (λ (m : ℕ). bit m i) (sym kept-places) ∙ b)

    -- what is listed at a place that is kept is what the rule lists there
    listed-written : (i : ℕ) → i < 14 → Is (bit kept i) → listed_at (distinct_in F) (having_in F) (inside_in F) t head i ≡ written_values (setting_of F) (words_of (setting_of F) block) i
    unfolding listed_at
    listed-written i hi b =
        listed_by_lem (record_of F).known (record_of F).values (record_of F).holders (record_of F).kinds (record_of F).users (record_of F).resources (record_of F).roles i hi (members_of (words_at t head) (place_side i))
        (λ x m. members_valued F Z i hi (members_of (words_of (setting_of F) block) (place_side i)) (members-within (setting_of F) block (place_side i)) (known-there i hi b) x (sym (ap (λ (W : Words). bit (members_of W (place_side i)) x) words) ∙ m))
        ∙ ap (λ (W : Words). listed_of (values_in F i) (members_of W (place_side i)) (lists_least (record_of F).kinds i)) words
        ∙ lists-same (place_side i) (place_attribute i) _ _
        (values-place F Z i hi (members_of (words_of (setting_of F) block) (place_side i)) (members-within (setting_of F) block (place_side i))
        (known-there i hi b)
        (words_of (setting_of F) block) (lists_least (record_of F).kinds i) refl (least_means F Z i hi)
        ∙ written-conjunct (setting_of F) (words_of (setting_of F) block) i hi)

    place-written : (w : Which) (set : Bool) (j : ℕ) → j < 7
        → place_bytes_in (distinct_in F) (having_in F) (inside_in F) (record_of F).kinds t head kept w set (kind_place w j) ≡ place_bytes (setting_of F) (words_of (setting_of F) block) kept w set j
    unfolding place_bytes_in kept_as place_bytes
    place-written w set j h =
        go (bit kept (kind_place w j)) (set_place (record_of F).kinds (kind_place w j)) (((setting_of F).side w).is_set (place_attribute (kind_place w j)))
        (set_means F (kind_place w j) (place-below w j h) ∙ ap (λ (x : Which). ((setting_of F).side x).is_set (place_attribute (kind_place w j))) (place-side w j h))
        (λ b. ap (each (value_bytes w set (place_attribute (kind_place w j)))) (listed-written (kind_place w j) (place-below w j h) b))
      where
        go : (b x y : Bool) {l m : List ℕ} → x ≡ y → (Is b → l ≡ m) → cond (b && iff x set) l [] ≡ cond (b && iff y set) m []
        go true x y {l} {m} e f = ap₂ (λ (z : Bool) (n : List ℕ). cond (iff z set) n []) e (f refl)
        go false x y e f = refl

    kind_written : (w : Which) (set : Bool)
        → kind_bytes_in (distinct_in F) (having_in F) (inside_in F) (record_of F).kinds t head kept w set ≡ each (place_bytes (setting_of F) (words_of (setting_of F) block) kept w set) (up_to 7)
    unfolding kind_bytes_in
    kind_written w set = each_ext _ _ (up_to 7) (λ j m. place-written w set j (up_to-out 7 m))

    -- the role and the operation set of a part
    abbrev role : ℕ → ℕ
    role i = (part_at (setting_of F) (roles_in F) i).role

    abbrev cls : ℕ → ℕ
    cls i = class_of (setting_of F) (roles_in F) (part_at (setting_of F) (roles_in F) i)

    group-low : (i : ℕ) → i is_in s.group head → i < parts
    group-low i m = shows.low head i low alive (elem_in m)

    -- its name says the role
    role-named : (i : ℕ) → i < parts → role_at t i ≡ role i
    role-named i h = ap (λ (p : Part). p.role) (shows.named i h)

    role-low : Every (λ i. role i < 32) (s.group head)
    role-low i m = let e = role-named i (group-low i m) in omega arith

    class_written : (i r : ℕ) → i < parts → role_at t i ≡ r → class_at (record_of F).permissions (record_of F).operations t r i ≡ cls i
    unfolding class_at
    class_written i r h e = rw (← e) (class_shown F Z (role_at t i) (lead_at t i) (omega arith) (omega arith) ∙ ap (class_of (setting_of F) (roles_in F)) (shows.named i h))

    role-written : (r : ℕ) → r < 32 → role_bytes_in (record_of F).permissions (record_of F).operations starts t head r ≡ each (part_bytes r) (sort ltb (map cls (of_role role (s.group head) r)))
    unfolding role_bytes_in classes_at parts_at in_group
    role-written r hr =
        ap (each (part_bytes r))
        (sort-same ltb numbers (map (class_at (record_of F).permissions (record_of F).operations t r) (parts_at starts t head r)) (map cls (of_role role (s.group head) r))
        (λ v m. let u = map-out (class_at (record_of F).permissions (record_of F).operations t r) (parts_at starts t head r) m in
        let q = keep_out (in_group t head) (parts_of starts r) u.1 in
        let l = from_out (get_or starts r 0) (get_or starts (r + 1) 0 - get_or starts r 0) q.0 in
        there v u.0 (begun.between u.0 r hr l.0 (omega arith)) q.1 u.2)
        (λ v m. let u = map-out cls (of_role role (s.group head) r) m in
        let q = keep_out (λ i. eqb (role i) r) (s.group head) u.1 in
        back v u.0 q.0 (eqb-true (role u.0) r q.1) u.2))
      where
        there : (v i : ℕ) → (i < parts) × (role_at t i ≡ r) → Is (in_group t head i) → v ≡ class_at (record_of F).permissions (record_of F).operations t r i → v is_in map cls (of_role role (s.group head) r)
        there v i (l, n) g e =
            rw (e ∙ class_written i r l n)
            (map_in cls (keep_in (λ i. eqb (role i) r) (elem_out i (s.group head) (shows.members head i low l alive ∙ g)) (eq-eqb (role i) r (sym (role-named i l) ∙ n))))

        back : (v i : ℕ) → i is_in s.group head → role i ≡ r → v ≡ cls i → v is_in map (class_at (record_of F).permissions (record_of F).operations t r) (parts_at starts t head r)
        back v i m q e =
            let l = group-low i m in
            let n = role-named i l ∙ q in
            let b = subst (λ (k : ℕ). (get_or starts k 0 ≤ i) × (i < get_or starts (k + 1) 0)) n (begun.within i l) in
            rw (e ∙ sym (class_written i r l n))
            (map_in (class_at (record_of F).permissions (record_of F).operations t r) (keep_in (in_group t head) (from_in (get_or starts r 0) (get_or starts (r + 1) 0 - get_or starts r 0) i b.0 (omega (arith, b.0, b.1))) (sym (shows.members head i low l alive) ∙ elem_in m)))

    parts-written : part_bytes_in (record_of F).permissions (record_of F).operations starts t head ≡ each (encode 2) (part_lines_of role cls (s.group head))
    unfolding part_bytes_in
    parts-written = each_ext _ _ (up_to 32) (λ r m. role-written r (up_to-out 32 m)) ∙ sym (parts-bytes role cls (s.group head) role-low)

    level-byte : level_of (setting_of F) block < 256
    level-byte = let e = shows.level head low alive in omega arith

    -- THE LAW of what is written: the lines of the group's rule
    pub written-bytes : rule_bytes_in (distinct_in F) (having_in F) (inside_in F) (record_of F).kinds (record_of F).permissions (record_of F).operations starts t head kept ≡ each (encode 2) (opens ∷ lines_of (setting_of F) (roles_in F) (rule_of (setting_of F) (roles_in F) (s.group head)) (s.group head))
    unfolding rule_bytes_in level_bytes_in atom_bytes_in atom_bytes_at lines_of all_lines rule_of group_block
    written-bytes =
        ap (λ (l : List ℕ). 0x21 ∷ l)
        (ap₂ ◌++◌ (kind_written user false) (ap₂ ◌++◌ (kind_written user true) (ap₂ ◌++◌ (kind_written resource false) (ap₂ ◌++◌ (kind_written resource true)
        (ap₂ (λ (W : Words) (l : List ℕ). (0x26 ∷ spread 2 W.ops) ++ (atom_bytes_in kept ++ l)) words (ap₂ ◌++◌ parts-written (ap level_bytes (shows.level head low alive))))))))
        ∙ sym (rule-bytes (setting_of F) (words_of (setting_of F) block) kept (level_of (setting_of F) block) level-byte (part_lines_of role cls (s.group head)))
        ∙ ap (λ (m : ℕ). each (encode 2) (opens ∷ rule_lines (setting_of F) (words_of (setting_of F) block) m (level_of (setting_of F) block) (part_lines_of role cls (s.group head)))) kept-places
        ∙ ap (λ (ls : Lines). each (encode 2) (opens ∷ ls)) (sym (parts_sorted (setting_of F) (roomy F Z) (lawful F) block (shows.fitting head low alive) role cls (s.group head)))

    cost-written : (i : ℕ) → i < 14 → place_cost_in (distinct_in F) (having_in F) (inside_in F) (record_of F).kinds t head kept i ≡ place_cost (setting_of F) (words_of (setting_of F) block) kept i
    unfolding place_cost_in place_cost
    cost-written i h = go (bit kept i) _ _ (set_means F i h) (listed-written i h)
      where
        go : (b x y : Bool) {l m : List ℕ} → x ≡ y → (Is b → l ≡ m) → cond b (cond x (sum size l) (length l)) 0 ≡ cond b (cond y (sum size m) (length m)) 0
        go true x y e f = ap₂ (λ (z : Bool) (n : List ℕ). cond z (sum size n) (length n)) e (f refl)
        go false x y e f = refl

    side-written : (w : Which) → side_cost_in (distinct_in F) (having_in F) (inside_in F) (record_of F).kinds t head kept (by w 0 1) ≡ side_cost (setting_of F) w (rule_of (setting_of F) (roles_in F) (s.group head)).conds
    unfolding side_cost_in rule_of group_block
    side-written w =
        sum_ext _ _ (up_to 7) (λ j m. cost-written (kind_place w j) (place-below w j (up_to-out 7 m)))
        ∙ ap (λ (m : ℕ). sum (λ j. place_cost (setting_of F) (words_of (setting_of F) block) m (kind_place w j)) (up_to 7)) kept-places
        ∙ sym (rule-side (setting_of F) (roomy F Z) (lawful F) block (shows.fitting head low alive) w)

    -- THE LAW of what it costs: the sums are those of the group's rule
    pub written_sums : rule_sums_in (distinct_in F) (having_in F) (inside_in F) (record_of F).kinds t head kept ≡ rule_sums (setting_of F) (rule_of (setting_of F) (roles_in F) (s.group head))
    unfolding rule_sums_in rule_sums rule_of group_block
    written_sums =
        sums_same (side-written user) (side-written resource)
        (ap (λ (W : Words). size W.ops) words ∙ sym (ap size (written_ops_words (setting_of F) block)))
        (ap (λ (m : ℕ). size (atom_set m)) kept-places ∙ sym (rule-atoms (setting_of F) (roomy F Z) (lawful F) block (shows.fitting head low alive)))
