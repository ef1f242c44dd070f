-- The laws of a group's rows: where all members of the group meet a rule, the rows tell whether it grants the group's triples and no other.
-- Assumes nothing.
use Prim.Native.Nat.{ℕ, ◌+◌, ◌*◌, ◌/◌, ◌^◌, ◌≤◌, ◌<◌}
use borrow.Author.Tests.{eqb-true, eqb-false, eq-eqb, ne_eqb, lt-ltb, ltb-true, not-true}
use Rattle.std.proofs.Math.Dec.{eqb, ltb}
use Rattle.std.specs.Prelude.{length, true, false, cond, ◌≡◌}
use Rattle.std.proofs.Math.ListN.{get_or}
use Rattle.std.proofs.Math.Bool.{Bool, ◌&&◌, not, and_comm}
use mathlib.Core.List.{List}
use Rattle.std.proofs.Math.Option.{none}
use Rattle.std.proofs.Math.Path.{refl, sym, ap, ap₂}
use Rattle.std.proofs.Common.{◌∙◌, subst, arith}
use Rattle.rule_conjuncts.specs.Summary.{met_by_all}
use Rattle.grant_links.specs.Linked.{linked_with}
use Rattle.files.specs.Calls.{first}
use Rattle.grant_grids.specs.Grid.{differ_at, difference_of, is_same}
use Rattle.grant_grids.proofs.GridLaws.{triples-same, same_means}
use Rattle.role_record.specs.Record.{table_of}
use Rattle.role_record.specs.RecordLaws.{table_get}
use Rattle.sets.specs.ListLaws.{all_ext}
use Rattle.sets.specs.MemberLaws.{least_in}
use Rattle.mine_corners.specs.FitLaws.{row-bit}
use Rattle.mine_corners.specs.Pairing.{table_spans, less}
use Rattle.policy.proofs.RuleLaws.{same_in, same_out}
use Rattle.policy.specs.Rules.{Side, Setting, by, same_block}
use Rattle.sets.specs.LoopLaws.{table-unique}
use Rattle.sets.specs.Sets.{narrowing, bit, subset, mask_of, less_one}
use Rattle.sets.specs.Lowest.{lowest_from}
use Rattle.sets.specs.MaskLaws.{bit-mask_of, mask_lt, mask_none}
use Rattle.sets.specs.SetLaws.{subset-out, bit-none, bit_mask}
use Rattle.sets.specs.Tests.{Is, imp, all, up_to}
use Rattle.sets.specs.TestLaws.{and_in, and_l, and_r, never, test, fails, same, imp_in, imp-out, all-out, all_in, up_to_in, up_to-out, not_in}
use Rattle.mine_theory.specs.Words.Words.{Words}
use Rattle.mine_rows.specs.Others.{rule_over, first_other}
use Rattle.mine_rows.specs.KeptPlaces.{grants_same}
use Rattle.grant_links.specs.LinkedLaws.{narrow-turn, narrow-done, linked-begin}
use Rattle.mine_rows.specs.Others.{no_other}
use Rattle.mine_rows.specs.Rows.{everything, shared, narrowed_rows, joined_rows, free_corner, free_corners, row_in, is_full, open_users, adds_none, asks_no_more}
use Rattle.mine_rows.specs.FirstOtherLaws.{ruled}

-- the laws of comparisons speak of a setting: one with nothing but sizes
abbrev bare : ℕ → Side
bare n = record { count = n; attrs = 0; is_set = λ a. false; domain = λ a. 0; value = λ a x. none; below = λ a v x. false }

abbrev sized : ℕ → ℕ → ℕ → Setting
sized us rs os = record { side = λ w. bare (by w us rs); slots = os }

-- what two sets share, and what one has without the other
shared-bit : (a b k : ℕ) → k < 64 → bit (shared a b) k ≡ (bit a k && bit b k)
shared-bit a b k l = bit_mask 64 (λ k. bit a k && bit b k) k l

less-bit : (a b k : ℕ) → k < 64 → bit (less a b) k ≡ (bit a k && not (bit b k))
less-bit a b k l = bit_mask 64 (λ k. bit a k && not (bit b k)) k l

-- those that meet all conjuncts of a side are some of those there are
met-low : (met : List ℕ) (m side n x : ℕ) → Is (bit (met_by_all met m side n) x) → x < n
unfolding met_by_all
met-low met m side n x h =
    let everybody = mask_of 64 (λ x. ltb x n) in
    let k = and_l (bit everybody x) _ (and_r (ltb x 64) _ (sym (bit-mask_of 64 (narrowing everybody (λ i. bit m (7 * side + i)) (λ i. get_or met (7 * side + i) 0) 7) x) ∙ h)) in
    ltb-true x n (and_r (ltb x 64) _ (sym (bit-mask_of 64 (λ x. ltb x n) x) ∙ k))

-- ---- corners

module _ (rows : List ℕ) (us rs : ℕ) where
  corner_out : Is (free_corner rows us rs) → (u r : ℕ) → u < 64 → r < 64 → Is (bit us u) → Is (bit rs r) → Is (bit (get_or rows u 0) r) → ⊥
  unfolding free_corner
  corner_out h u r lu lr p q k =
      let e = eqb-true (shared (get_or rows u 0) rs) 0 (imp-out (eqb (shared (get_or rows u 0) rs) 0) (all-out (λ u. imp (bit us u) (eqb (shared (get_or rows u 0) rs) 0)) h (up_to_in lu)) p) in
      never (shared-bit (get_or rows u 0) rs r lr ∙ and_in k q) (ap (λ (m : ℕ). bit m r) e ∙ bit-none r)

  corner_in : ((u r : ℕ) → u < 64 → r < 64 → Is (bit us u) → Is (bit rs r) → Is (bit (get_or rows u 0) r) → ⊥) → Is (free_corner rows us rs)
  unfolding free_corner
  corner_in h = all_in (λ u. imp (bit us u) (eqb (shared (get_or rows u 0) rs) 0)) (up_to 64) λ u i. imp_in (bit us u) (eqb (shared (get_or rows u 0) rs) 0) λ p.
      eq-eqb (shared (get_or rows u 0) rs) 0 (mask_none 64 (λ k. bit (get_or rows u 0) k && bit rs k) λ r l.
      fails (bit (get_or rows u 0) r && bit rs r) (λ k. h u r (up_to-out 64 i) l p (and_r (bit (get_or rows u 0) r) (bit rs r) k) (and_l (bit (get_or rows u 0) r) (bit rs r) k)))

  -- no resources, no corner
  pub corner_nothing : rs ≡ 0 → true ≡ free_corner rows us rs
  corner_nothing e = sym (corner_in (λ u r lu lr p q k. never q (ap (λ (m : ℕ). bit m r) e ∙ bit-none r)))

-- ---- the code's steps

-- a table with the right words is the table
pub rows_unique : (f : ℕ → ℕ) (t : List ℕ) → length t ≡ 64 → ((i : ℕ) → i < 64 → get_or t i 0 ≡ f i) → t ≡ table_of 64 f
unfolding table_of
rows_unique f t e h = table-unique 64 t f e h

-- a loop over the atoms that narrows all rows at once: each user's row is as if narrowed alone
module _ (links : List ℕ) (atoms : ℕ) where
  abbrev word : ℕ → ℕ → ℕ
  word u i = get_or links (64 * i + u) 0

  -- narrowing the rows by the atoms left gives the answer
  abbrev pub Narrows : List ℕ → ℕ → Type 0
  Narrows t rest = (u : ℕ) → u < 64 → (get_or t u 0 < 2 ^ 64) × (mask_of 64 (narrowing (get_or t u 0) (bit rest) (word u) 36) ≡ linked_with links atoms u everything)

  pub rows_begin : (t : List ℕ) (rest : ℕ) → t ≡ table_of 64 (λ u. everything) → rest ≡ mask_of 36 (bit atoms) → Narrows t rest
  rows_begin t rest e q u l =
      let w : get_or t u 0 ≡ everything = ap (λ (x : List ℕ). get_or x u 0) e ∙ table_get 64 (λ u. everything) u l in
      (subst (λ (x : ℕ). x < 2 ^ 64) (sym w) (mask_lt 64 (λ k. ltb k 64)), ap (λ (x : ℕ). mask_of 64 (narrowing x (bit rest) (word u) 36)) w ∙ linked-begin links atoms u everything rest q)

  pub rows_turn : (t t' : List ℕ) (rest : ℕ) → rest < 2 ^ 64 → (i : ℕ) → i < 36 → Is (bit rest i) → t' ≡ narrowed_rows links i t → (rest' : ℕ) → rest' ≡ less_one rest i → Narrows t rest → Narrows t' rest'
  unfolding narrowed_rows
  rows_turn t t' rest h i l b e rest' z n u lu =
      let w : get_or t' u 0 ≡ shared (get_or t u 0) (word u i) = ap (λ (x : List ℕ). get_or x u 0) e ∙ table_get 64 (λ u. shared (get_or t u 0) (word u i)) u lu in
      (subst (λ (x : ℕ). x < 2 ^ 64) (sym w) (mask_lt 64 (λ k. bit (get_or t u 0) k && bit (word u i) k)), ap (λ (x : ℕ). mask_of 64 (narrowing (get_or t' u 0) (bit x) (word u) 36)) z ∙ narrow-turn 36 rest h (word u) i (get_or t u 0) (get_or t' u 0) l b w ∙ (n u lu).1)

  pub rows_end : (t : List ℕ) (rest : ℕ) → length t ≡ 64 → rest ≡ 0 → Narrows t rest → t ≡ joined_rows links atoms
  unfolding joined_rows
  rows_end t rest e z n = rows_unique (λ u. linked_with links atoms u everything) t e λ u l. sym (narrow-done 36 rest (word u) (get_or t u 0) (n u l).0 z) ∙ (n u l).1

module _ (W : Words) (full who what : ℕ) where
  -- a rule that adds no resources
  pub open_some : {s : Bool} {m : ℕ} → s ≡ subset what W.resources → s ≡ true → m ≡ less who full → m ≡ open_users W full who what
  unfolding open_users
  open_some e t h = rw (sym e ∙ t) h

  -- any other
  pub open_all : {s : Bool} → s ≡ subset what W.resources → s ≡ false → who ≡ open_users W full who what
  unfolding open_users
  open_all e t = rw (sym e ∙ t) refl

module _ (rows : List ℕ) (W : Words) where
  -- the first corner is not free
  pub corners-refused : (who what : ℕ) {m : ℕ} {p : Bool} → m ≡ less what W.resources → p ≡ free_corner rows W.users m → p ≡ false → false ≡ free_corners rows W who what
  unfolding free_corners
  corners-refused who what e h q = sym (ap (λ (b : Bool). b && free_corner rows (less who W.users) what) (sym (ap (free_corner rows W.users) e) ∙ sym h ∙ q))

  -- it is, and the second decides
  pub corners-rest : (who what : ℕ) {m n : ℕ} {p r : Bool} → m ≡ less what W.resources → p ≡ free_corner rows W.users m → p ≡ true → n ≡ less who W.users → r ≡ free_corner rows n what → r ≡ free_corners rows W who what
  unfolding free_corners
  corners-rest who what e h q f k = k ∙ ap (λ (m : ℕ). free_corner rows m what) f ∙ sym (ap (λ (b : Bool). b && free_corner rows (less who W.users) what) (sym (ap (free_corner rows W.users) e) ∙ sym h ∙ q))

  -- a user of the group
  pub row-there : (u : ℕ) {m : ℕ} → bit W.users u ≡ true → m ≡ shared (get_or rows u 0) W.resources → m ≡ row_in rows W u
  unfolding row_in
  row-there u e h = rw e h

  -- anybody else
  pub row-nobody : (u : ℕ) → bit W.users u ≡ false → 0 ≡ row_in rows W u
  unfolding row_in
  row-nobody u e = rw e refl

  -- a user that has all resources of the group
  pub full-told : (u : ℕ) {a b : Bool} → a ≡ bit W.users u → b ≡ subset W.resources (get_or rows u 0) → (a && b) ≡ is_full rows W u
  unfolding is_full
  full-told u e h = ap₂ ◌&&◌ e h

  module _ (full who what : ℕ) where
    -- the users that need no look add nothing
    pub open_enough : (links : List ℕ) (atoms m : ℕ) → full ≡ mask_of 64 (is_full rows W) → m ≡ open_users W full who what
        → all (λ u. imp (bit m u) (eqb (linked_with links atoms u (less what (row_in rows W u))) 0)) (up_to 64) ≡ adds_none links rows W atoms who what
    unfolding open_users adds_none linked_with is_full row_in
    open_enough links atoms m e h = test (subset what W.resources)
        (λ s. ap passed (rw s at h) ∙ same (passed (less who full)) (passed who) (there s) back)
        (λ s. ap passed (rw s at h))
      where
        alone : ℕ → Bool
        alone u = eqb (linked_with links atoms u (less what (row_in rows W u))) 0

        passed : ℕ → Bool
        passed m = all (λ u. imp (bit m u) (alone u)) (up_to 64)

        -- a user that has all resources gets none
        nothing : Is (subset what W.resources) → (u : ℕ) → u < 64 → Is (bit full u) → Is (alone u)
        nothing s u l b =
            let k = sym (ap (λ (x : ℕ). bit x u) e ∙ bit_mask 64 (is_full rows W) u l) ∙ b in
            let here = and_l (bit W.users u) _ k in
            eq-eqb (linked_with links atoms u (less what (row_in rows W u))) 0 (mask_none 64 (narrowing (less what (row_in rows W u)) (bit atoms) (λ i. get_or links (64 * i + u) 0) 36) λ r lr.
            fails (narrowing (less what (row_in rows W u)) (bit atoms) (λ i. get_or links (64 * i + u) 0) 36 r) λ t.
            let m = sym (less-bit what (row_in rows W u) r lr) ∙ and_l (bit (less what (row_in rows W u)) r) _ t in
            let w = subset-out what W.resources s r (and_l (bit what r) _ m) in
            never (ap (λ (b : Bool). bit (cond b (shared (get_or rows u 0) W.resources) 0) r) here ∙ shared-bit (get_or rows u 0) W.resources r lr ∙ and_in (subset-out W.resources (get_or rows u 0) (and_r (bit W.users u) _ k) r w) w)
            (not-true (bit (row_in rows W u) r) (and_r (bit what r) _ m)))

        there : Is (subset what W.resources) → Is (passed (less who full)) → Is (passed who)
        there s p = all_in (λ u. imp (bit who u) (alone u)) (up_to 64) λ u i. imp_in (bit who u) (alone u) λ a. test (bit full u)
            (λ b. nothing s u (up_to-out 64 i) b)
            (λ b. imp-out (alone u) (all-out (λ u. imp (bit (less who full) u) (alone u)) p i) (less-bit who full u (up_to-out 64 i) ∙ and_in a (not_in (bit full u) b)))

        back : Is (passed who) → Is (passed (less who full))
        back p = all_in (λ u. imp (bit (less who full) u) (alone u)) (up_to 64) λ u i. imp_in (bit (less who full) u) (alone u) λ a.
            imp-out (alone u) (all-out (λ u. imp (bit who u) (alone u)) p i) (and_l (bit who u) _ (sym (less-bit who full u (up_to-out 64 i)) ∙ a))

module _ (W : Words) (atoms who what os : ℕ) where
  -- what a rule asks beside the operation
  abbrev met : Bool
  met = (subset W.users who && subset W.resources what) && subset atoms W.atoms

  -- a group without operations
  pub asks_nothing : {b m : ℕ} → b ≡ mask_of 64 (λ k. ltb k os) → m ≡ shared W.ops b → m ≡ 0 → false ≡ asks_no_more W atoms who what os
  unfolding asks_no_more
  asks_nothing e h q = sym (ap (λ (x : Bool). not x && met) (eq-eqb (shared W.ops (mask_of 64 (λ k. ltb k os))) 0 (sym (ap (shared W.ops) e) ∙ sym h ∙ q)))

  -- any other: its members and its atoms decide
  pub asks-some : {b m : ℕ} {x y z : Bool} → b ≡ mask_of 64 (λ k. ltb k os) → m ≡ shared W.ops b → (m ≡ 0 → ⊥) → x ≡ subset W.users who → y ≡ subset W.resources what → z ≡ subset atoms W.atoms
      → ((x && y) && z) ≡ asks_no_more W atoms who what os
  unfolding asks_no_more
  asks-some e h q f g k = ap₂ ◌&&◌ (ap₂ ◌&&◌ f g) k ∙ sym (ap (λ (x : Bool). not x && met) (ne_eqb (shared W.ops (mask_of 64 (λ k. ltb k os))) 0 (λ z. q (h ∙ ap (shared W.ops) e ∙ z))))

-- ---- a rule beside a group

-- all of some atoms join a user and a resource
abbrev joins : List ℕ → ℕ → ℕ → ℕ → Bool
joins links atoms u r = all (λ i. imp (bit atoms i) (bit (get_or links (64 * i + u) 0) r)) (up_to 36)

-- only the 36 atoms count
joins-same : (links : List ℕ) (a b u r : ℕ) → ((i : ℕ) → i < 36 → bit a i ≡ bit b i) → joins links a u r ≡ joins links b u r
joins-same links a b u r h = all_ext (λ i. imp (bit a i) (bit (get_or links (64 * i + u) 0) r)) (λ i. imp (bit b i) (bit (get_or links (64 * i + u) 0) r)) (up_to 36) λ i m. ap (λ (c : Bool). imp c (bit (get_or links (64 * i + u) 0) r)) (h i (up_to-out 36 m))

-- a pair of a user and a resource: some users, some resources, all of some atoms
abbrev pair : List ℕ → ℕ → ℕ → ℕ → ℕ → ℕ → Bool
pair links atoms users resources u r = bit users u && (bit resources r && joins links atoms u r)

module _ (links : List ℕ) (W : Words) (atoms who what us rs os : ℕ) where
  other_means : no_other links W atoms who what us rs os ≡ same_block (sized us rs os) (ruled links W atoms who what) (table_spans links W)
  unfolding no_other first_other differ_at
  other_means =
      ap (λ ts. is_same (difference_of (first (differ_at (ruled links W atoms who what) (table_spans links W)) ts))) (sym (triples-same (sized us rs os)))
      ∙ same_means (sized us rs os) (ruled links W atoms who what) (table_spans links W)

  module _ (lu : us ≤ 64) (lr : rs ≤ 64) (mu : (u : ℕ) → Is (bit who u) → u < us) (mr : (r : ℕ) → Is (bit what r) → r < rs) (h : Is (asks_no_more W atoms who what os)) where
    -- what it does not ask for more of
    users_in : (u : ℕ) → Is (bit W.users u) → Is (bit who u)
    unfolding asks_no_more
    users_in = subset-out W.users who (and_l (subset W.users who) (subset W.resources what) (and_l (subset W.users who && subset W.resources what) _ (and_r (not (eqb (shared W.ops (mask_of 64 (λ k. ltb k os))) 0)) _ h)))

    resources_in : (r : ℕ) → Is (bit W.resources r) → Is (bit what r)
    unfolding asks_no_more
    resources_in = subset-out W.resources what (and_r (subset W.users who) (subset W.resources what) (and_l (subset W.users who && subset W.resources what) _ (and_r (not (eqb (shared W.ops (mask_of 64 (λ k. ltb k os))) 0)) _ h)))

    atoms-in : (i : ℕ) → Is (bit atoms i) → Is (bit W.atoms i)
    unfolding asks_no_more
    atoms-in = subset-out atoms W.atoms (and_r (subset W.users who && subset W.resources what) _ (and_r (not (eqb (shared W.ops (mask_of 64 (λ k. ltb k os))) 0)) _ h))

    -- an operation of the group
    operation : (o : ℕ) × (o < os) × Is (bit W.ops o)
    unfolding asks_no_more
    operation =
        let m = shared W.ops (mask_of 64 (λ k. ltb k os)) in
        let some = eqb-false m 0 (not-true (eqb m 0) (and_l (not (eqb m 0)) _ h)) in
        let t = least_in m (mask_lt 64 (λ k. bit W.ops k && bit (mask_of 64 (λ k. ltb k os)) k)) (lowest_from (bit m) 0 64) refl (omega arith) in
        let o = lowest_from (bit m) 0 64 in
        let b = sym (shared-bit W.ops (mask_of 64 (λ k. ltb k os)) o t.0) ∙ t.1 in
        (o, ltb-true o os (sym (bit_mask 64 (λ k. ltb k os) o t.0) ∙ and_r (bit W.ops o) _ b), and_l (bit W.ops o) _ b)

    -- the rule has every pair of the group
    group-pair : (u r : ℕ) → Is (pair links W.atoms W.users W.resources u r) → Is (pair links atoms who what u r)
    group-pair u r p =
        let x = and_l (bit W.users u) _ p in
        let k = and_r (bit W.users u) _ p in
        let y = and_l (bit W.resources r) _ k in
        let j = and_r (bit W.resources r) _ k in
        and_in (users_in u x) (and_in (resources_in r y) (all_in (λ i. imp (bit atoms i) (bit (get_or links (64 * i + u) 0) r)) (up_to 36) λ i m. imp_in (bit atoms i) (bit (get_or links (64 * i + u) 0) r) λ t.
        imp-out (bit (get_or links (64 * i + u) 0) r) (all-out (λ i. imp (bit W.atoms i) (bit (get_or links (64 * i + u) 0) r)) j m) (atoms-in i t)))

    -- so it grants the same just if it has no other
    pairs_in : ((u r : ℕ) → Is (pair links atoms who what u r) → Is (pair links W.atoms W.users W.resources u r)) → Is (no_other links W atoms who what us rs os)
    unfolding table_spans rule_over
    pairs_in f = other_means ∙ same_in (sized us rs os) (ruled links W atoms who what) (table_spans links W) λ u r o t.
        let k = t.resource in
        ap (λ (b : Bool). bit W.ops o && b)
        (row-bit links atoms who what u r (omega arith) ∙ same (pair links atoms who what u r) (pair links W.atoms W.users W.resources u r) (f u r) (group-pair u r) ∙ sym (row-bit links W.atoms W.users W.resources u r (omega arith)))

    pairs-out : Is (no_other links W atoms who what us rs os) → (u r : ℕ) → Is (pair links atoms who what u r) → Is (pair links W.atoms W.users W.resources u r)
    unfolding table_spans rule_over
    pairs-out k u r p =
        let o = operation in
        let a = mu u (and_l (bit who u) _ p) in
        let b = mr r (and_l (bit what r) _ (and_r (bit who u) _ p)) in
        sym (row-bit links W.atoms W.users W.resources u r (omega arith))
        ∙ sym (granted o.2 (same_out (sized us rs os) (ruled links W atoms who what) (table_spans links W) (sym other_means ∙ k) u r o.0 (record { user = a; resource = b; op = o.1 })))
        ∙ row-bit links atoms who what u r (omega arith) ∙ p
      where
        granted : {g x y : Bool} → Is g → (g && x) ≡ (g && y) → x ≡ y
        granted e q = rw e at q

    module _ (rows : List ℕ) (q : rows ≡ joined_rows links W.atoms) where
      row_says : (u r : ℕ) → u < us → r < 64 → bit (get_or rows u 0) r ≡ joins links W.atoms u r
      unfolding joined_rows linked_with
      row_says u r a b =
          ap (λ (t : List ℕ). bit (get_or t u 0) r) q ∙ ap (λ (m : ℕ). bit m r) (table_get 64 (λ u. linked_with links W.atoms u everything) u (omega arith))
          ∙ bit_mask 64 (narrowing everything (bit W.atoms) (λ i. get_or links (64 * i + u) 0) 36) r b
          ∙ ap (λ (x : Bool). x && joins links W.atoms u r) (bit_mask 64 (λ k. ltb k 64) r b ∙ lt-ltb r 64 b)

      -- THE LAW of a rule with all atoms of the group: it grants no more just if the corners are free
      pub corners_tell : ((i : ℕ) → i < 36 → bit atoms i ≡ bit W.atoms i) → free_corners rows W who what ≡ no_other links W atoms who what us rs os
      unfolding free_corners
      corners_tell e = same (free_corners rows W who what) (no_other links W atoms who what us rs os) there back
        where
          there : Is (free_corners rows W who what) → Is (no_other links W atoms who what us rs os)
          there f = pairs_in λ u r p.
              let a = and_l (bit who u) _ p in
              let b = and_l (bit what r) _ (and_r (bit who u) _ p) in
              let j = sym (joins-same links atoms W.atoms u r e) ∙ and_r (bit what r) _ (and_r (bit who u) _ p) in
              let ua = mu u a in
              let rb = mr r b in
              test (bit W.users u)
              (λ x. test (bit W.resources r)
              (λ y. and_in x (and_in y j))
              (λ y. absurd (corner_out rows W.users (less what W.resources) (and_l (free_corner rows W.users (less what W.resources)) _ f) u r (omega arith) (omega arith) x (less-bit what W.resources r (omega arith) ∙ and_in b (not_in (bit W.resources r) y)) (row_says u r ua (omega arith) ∙ j))))
              (λ x. absurd (corner_out rows (less who W.users) what (and_r (free_corner rows W.users (less what W.resources)) _ f) u r (omega arith) (omega arith) (less-bit who W.users u (omega arith) ∙ and_in a (not_in (bit W.users u) x)) b (row_says u r ua (omega arith) ∙ j)))

          -- a user and a resource that the rule has are the group's
          pair_of : Is (no_other links W atoms who what us rs os) → (u r : ℕ) → r < 64 → Is (bit who u) → Is (bit what r) → Is (bit (get_or rows u 0) r) → Is (pair links W.atoms W.users W.resources u r)
          pair_of k u r l a b j = pairs-out k u r (and_in a (and_in b (joins-same links atoms W.atoms u r e ∙ sym (row_says u r (mu u a) l) ∙ j)))

          back : Is (no_other links W atoms who what us rs os) → Is (free_corners rows W who what)
          back k = and_in
              (corner_in rows W.users (less what W.resources) λ u r lu lr p t j.
              let m = sym (less-bit what W.resources r lr) ∙ t in
              never (and_l (bit W.resources r) _ (and_r (bit W.users u) _ (pair_of k u r lr (users_in u p) (and_l (bit what r) _ m) j))) (not-true (bit W.resources r) (and_r (bit what r) _ m)))
              (corner_in rows (less who W.users) what λ u r lu lr p t j.
              let m = sym (less-bit who W.users u lu) ∙ p in
              never (and_l (bit W.users u) _ (pair_of k u r lr (and_l (bit who u) _ m) t j)) (not-true (bit W.users u) (and_r (bit who u) _ m)))

      row_in_bit : (u r : ℕ) → u < us → r < 64 → bit (row_in rows W u) r ≡ pair links W.atoms W.users W.resources u r
      unfolding row_in
      row_in_bit u r a b = test (bit W.users u)
          (λ e. rw e (shared-bit (get_or rows u 0) W.resources r b ∙ ap (λ (x : Bool). x && bit W.resources r) (row_says u r a b) ∙ and_comm (joins links W.atoms u r) (bit W.resources r)))
          (λ e. rw e (bit-none r))

      -- THE LAW of a rule with some atoms of the group: it grants no more just if they add none to its rows
      pub rows_tell : adds_none links rows W atoms who what ≡ no_other links W atoms who what us rs os
      unfolding adds_none linked_with
      rows_tell = same (adds_none links rows W atoms who what) (no_other links W atoms who what us rs os) there back
        where
          others : ℕ → ℕ
          others u = less what (row_in rows W u)

          narrowed : ℕ → ℕ → Bool
          narrowed u = narrowing (others u) (bit atoms) (λ i. get_or links (64 * i + u) 0) 36

          there : Is (adds_none links rows W atoms who what) → Is (no_other links W atoms who what us rs os)
          there f = pairs_in λ u r p.
              let a = and_l (bit who u) _ p in
              let b = and_l (bit what r) _ (and_r (bit who u) _ p) in
              let ua = mu u a in
              let rb = mr r b in
              test (bit (row_in rows W u) r)
              (λ x. sym (row_in_bit u r ua (omega arith)) ∙ x)
              (λ x. never (bit_mask 64 (narrowed u) r (omega arith) ∙ and_in (less-bit what (row_in rows W u) r (omega arith) ∙ and_in b (not_in (bit (row_in rows W u) r) x)) (and_r (bit what r) _ (and_r (bit who u) _ p)))
              (ap (λ (m : ℕ). bit m r) (eqb-true (linked_with links atoms u (others u)) 0 (imp-out (eqb (linked_with links atoms u (others u)) 0) (all-out (λ u. imp (bit who u) (eqb (linked_with links atoms u (others u)) 0)) f (up_to_in {n = 64} {i = u} (omega arith))) a)) ∙ bit-none r))

          back : Is (no_other links W atoms who what us rs os) → Is (adds_none links rows W atoms who what)
          back k = all_in (λ u. imp (bit who u) (eqb (linked_with links atoms u (others u)) 0)) (up_to 64) λ u i. imp_in (bit who u) (eqb (linked_with links atoms u (others u)) 0) λ a.
              eq-eqb (linked_with links atoms u (others u)) 0 (mask_none 64 (narrowed u) λ r l. fails (narrowed u r) λ t.
              let m = sym (less-bit what (row_in rows W u) r l) ∙ and_l (bit (others u) r) _ t in
              never (row_in_bit u r (mu u a) l ∙ pairs-out k u r (and_in a (and_in (and_l (bit what r) _ m) (and_r (bit (others u) r) _ t)))) (not-true (bit (row_in rows W u) r) (and_r (bit what r) _ m)))

-- ---- the rule with the conditions at some places

module _ (links met : List ℕ) (us rs os : ℕ) (W : Words) (m who what : ℕ) (p : who ≡ met_by_all met m 0 us) (q : what ≡ met_by_all met m 1 rs) where
  -- the search through the triples tells
  pub told_by_triples : {s : Bool} → s ≡ no_other links W (m / 2 ^ 14) who what us rs os → s ≡ grants_same links met us rs os W m
  unfolding grants_same no_other
  told_by_triples e = e ∙ ap₂ (λ (x y : ℕ). is_same (difference_of (first_other links W (m / 2 ^ 14) x y us rs os))) p q

  module _ (lu : us ≤ 64) (lr : rs ≤ 64) {h : Bool} (e : h ≡ asks_no_more W (m / 2 ^ 14) who what os) (t : h ≡ true) (rows : List ℕ) (j : rows ≡ joined_rows links W.atoms) where
    who-low : (u : ℕ) → Is (bit who u) → u < us
    who-low u k = met-low met m 0 us u (sym (ap (λ (x : ℕ). bit x u) p) ∙ k)

    what-low : (r : ℕ) → Is (bit what r) → r < rs
    what-low r k = met-low met m 1 rs r (sym (ap (λ (x : ℕ). bit x r) q) ∙ k)

    -- the corners do, where it has all atoms of the group
    pub told_by_corners : {cut : ℕ} {s : Bool} → cut ≡ mask_of 36 (bit W.atoms) → cut ≡ m / 2 ^ 14 → s ≡ free_corners rows W who what → s ≡ grants_same links met us rs os W m
    told_by_corners f g k =
        told_by_triples (k ∙ corners_tell links W (m / 2 ^ 14) who what us rs os lu lr who-low what-low (sym e ∙ t) rows j
        (λ i l. ap (λ (x : ℕ). bit x i) (sym g ∙ f) ∙ bit_mask 36 (bit W.atoms) i l))

    -- and the rows do
    pub told_by_rows : {s : Bool} → s ≡ adds_none links rows W (m / 2 ^ 14) who what → s ≡ grants_same links met us rs os W m
    told_by_rows k = told_by_triples (k ∙ rows_tell links W (m / 2 ^ 14) who what us rs os lu lr who-low what-low (sym e ∙ t) rows j)
