-- What a rule lists and costs, in the steps in which code works it out.
-- Assumes nothing.
use Rattle.std.specs.Prelude.{ℕ, ◌+◌, ◌*◌, ◌/◌, ◌≤◌, ◌<◌, Bool, ◌≡◌}
use borrow.Author.Tests.{eq-eqb, eqb-true, ltb-true, ltb-false}
use Rattle.std.proofs.Math.Dec.{ltb}
use Rattle.std.proofs.Math.ListN.{length, get_or}
use Rattle.std.proofs.lemmas.List.{length-map}
use Rattle.std.proofs.Math.Bool.{true, false, cond}
use mathlib.Core.List.Memᴰ
use mathlib.Core.List.{List, [], ◌∷◌, map}
use Rattle.std.proofs.Math.Path.{refl, sym, ap, ap₂}
use Rattle.std.proofs.Common.{◌∙◌, subst}
use native.Mathlib.Omega.{arith}
use Rattle.mine_distinct.specs.InsideValues.{is_listed, listed_by}
use Rattle.write_cost.specs.CostSumLaws.{sums_same}
use Rattle.write_cost.specs.CostSums.{AtMost}
use Rattle.write_lines.specs.Writing.{wrote}
use Rattle.role_record.specs.Cells.{most_operations}
use Rattle.role_record.specs.Places.{place_side, set_place}
use Rattle.role_record.specs.Record.{table_of}
use Rattle.role_record.specs.RecordLaws.{table_get}
use Rattle.grant_parts.specs.Parts.{class_row}
use Rattle.mine_theory.specs.Lines.RuleLines.{atom_set}
use Rattle.sets.specs.ListLaws.{sum-most, keep-most, sort-most, sort-same, from-length}
use Rattle.sets.specs.MaskLaws.{bit-mask_of, size-most, size_mask}
use Rattle.sets.specs.Sets.{bit, size}
use Rattle.sets.specs.SetLaws.{bit_mask}
use Rattle.sets.specs.Sorted.{sort}
use Rattle.sets.specs.SortedLaws.{numbers}
use Rattle.sets.specs.Tests.{Is, ◌is_in◌, any, keep, up_to, sum}
use Rattle.sets.specs.TestLaws.{and_in, and_l, and_r, test, any_in, any_out, keep_in, keep_out, up_to_in, map_in, map-out}
use Rattle.mine_parts.specs.Layout.{operations_at, members_at, lead_at, words_at}
use Rattle.mine_theory.specs.Words.Words.{members_of}
use Rattle.write_theory.specs.RuleLists.{side_place, listed_at, parts_of, class_at, class_among, ClassTable, in_group, led_by, member_set, parts_at, classes_at, place_cost_in, side_cost_in, rule_sums_in}
use Rattle.mine_parts.specs.LayoutLaws.{users-first, resources-second}
use Rattle.grant_listed.specs.ValueLaws.{among-nobody}
use Rattle.grant_listed.specs.Values.{values_among, listed_of}

-- ---- lists

-- ---- conjuncts

-- the members on the side of a place
pub place-members : (t : List ℕ) (head i : ℕ) → i < 14 → members_at t head (i / 7) ≡ members_of (words_at t head) (place_side i)
place-members t head i h = test (ltb i 7)
    (λ e. let l = ltb-true i 7 e in rw e (users-first t head (i / 7) (omega arith)))
    (λ e. let l = ltb-false i 7 e in rw e (resources-second t head (i / 7) (omega arith)))

module _ (distinct having inside t : List ℕ) (head i : ℕ) where
  -- what is listed is listed at the place
  pub listed-place : (members r : ℕ) (out list : List ℕ) → i < 14 → members ≡ members_at t head (i / 7)
      → (r ≡ length (listed_by distinct having inside i members)) × (out ≡ wrote (listed_by distinct having inside i members) list)
      → (r ≡ length (listed_at distinct having inside t head i)) × (out ≡ wrote (listed_at distinct having inside t head i) list)
  unfolding listed_at
  listed-place members r out list h e w =
      let n : listed_by distinct having inside i members ≡ listed_by distinct having inside i (members_of (words_at t head) (place_side i)) = ap (listed_by distinct having inside i) (e ∙ place-members t head i h) in
      (w.0 ∙ ap length n, w.1 ∙ ap (λ (l : List ℕ). wrote l list) n)

  -- no more than 64 values are
  pub listed-most : length (listed_at distinct having inside t head i) ≤ 64
  unfolding listed_at listed_by
  listed-most =
      within
      (length-map (keep (is_listed having inside i (members_of (words_at t head) (place_side i))) (up_to 64)) (λ k. get_or distinct (64 * i + k) 0))
      (keep-most (is_listed having inside i (members_of (words_at t head) (place_side i))) (up_to 64))
      (from-length 0 64)
    where
      within : {a b c : ℕ} → a ≡ b → b ≤ c → c ≡ 64 → a ≤ 64
      within p q r = omega arith

-- ---- parts

-- an operation that is one of these, and one that is not
pub class_in : (permissions : List ℕ) (operations k members o r : ℕ) → Is (bit members o) → r ≡ class_row permissions k operations o → r ≡ class_among permissions operations k members o
unfolding class_among
class_in permissions operations k members o r b e = e ∙ sym (ap (λ (c : Bool). cond c (class_row permissions k operations o) 0) b)

pub class_out : (permissions : List ℕ) (operations k members o : ℕ) → bit members o ≡ false → 0 ≡ class_among permissions operations k members o
unfolding class_among
class_out permissions operations k members o b = sym (ap (λ (c : Bool). cond c (class_row permissions k operations o) 0) b)

-- the operations that lead, and the parts that they lead
module _ (starts t : List ℕ) (head k : ℕ) where
  pub member_in : (i : ℕ) → i is_in parts_at starts t head k → Is (bit (member_set starts t head k) (lead_at t i))
  unfolding member_set parts_at
  member_in i m =
      let s = keep_out (in_group t head) (parts_of starts k) m in
      bit_mask most_operations (λ o. any (led_by t head o) (parts_of starts k)) (lead_at t i) (omega arith) ∙ any_in (led_by t head (lead_at t i)) s.0 (and_in s.1 (eq-eqb (lead_at t i) (lead_at t i) refl))

  pub member-out : (o : ℕ) → Is (bit (member_set starts t head k) o) → (o < most_operations) × (i : ℕ) × (i is_in parts_at starts t head k) × (lead_at t i ≡ o)
  unfolding member_set parts_at
  member-out o b =
      let m = sym (bit-mask_of most_operations (λ o. any (led_by t head o) (parts_of starts k)) o) ∙ b in
      let u = any_out (led_by t head o) (parts_of starts k) (and_r (ltb o most_operations) _ m) in
      (ltb-true o most_operations (and_l (ltb o most_operations) _ m), u.0, keep_in (in_group t head) u.1 (and_l (in_group t head u.0) _ u.2), eqb-true (lead_at t u.0) o (and_r (in_group t head u.0) _ u.2))

module _ (permissions : List ℕ) (operations : ℕ) (starts t : List ℕ) (head k : ℕ) where
  -- the classes of those who lead, from a table of theirs
  classes_listed : (table : List ℕ) → ClassTable permissions operations k (member_set starts t head k) table → listed_of table (member_set starts t head k) false ≡ classes_at permissions operations starts t head k
  unfolding listed_of values_among classes_at class_among class_at
  classes_listed table h =
      sort-same ltb numbers (map (λ x. get_or table x 0) (keep (bit (member_set starts t head k)) (up_to 64))) (map (class_at permissions operations t k) (parts_at starts t head k))
      (λ v m. let u = map-out (λ x. get_or table x 0) (keep (bit (member_set starts t head k)) (up_to 64)) m in there v u.0 (keep_out (bit (member_set starts t head k)) (up_to 64) u.1).1 u.2)
      (λ v m. let u = map-out (class_at permissions operations t k) (parts_at starts t head k) m in back v u.0 u.1 u.2)
    where
      class-at : (o : ℕ) → o < most_operations → Is (bit (member_set starts t head k) o) → get_or table o 0 ≡ class_row permissions k operations o
      class-at o l b = h o l ∙ ap (λ (c : Bool). cond c (class_row permissions k operations o) 0) b

      there : (v x : ℕ) → Is (bit (member_set starts t head k) x) → v ≡ get_or table x 0 → v is_in map (class_at permissions operations t k) (parts_at starts t head k)
      there v x b e =
          let u = member-out starts t head k x b in
          rw (e ∙ class-at x u.0 b ∙ ap (class_row permissions k operations) (sym u.3)) (map_in (class_at permissions operations t k) u.2)

      back : (v i : ℕ) → i is_in parts_at starts t head k → v ≡ class_at permissions operations t k i → v is_in map (λ x. get_or table x 0) (keep (bit (member_set starts t head k)) (up_to 64))
      back v i m e =
          let b = member_in starts t head k i m in
          rw (e ∙ sym (class-at (lead_at t i) (omega arith) b)) (map_in (λ x. get_or table x 0) (keep_in (bit (member_set starts t head k)) (up_to_in {n = 64} {i = lead_at t i} (omega arith)) b))

  -- a table of them
  abbrev tabled : List ℕ
  tabled = table_of most_operations (class_among permissions operations k (member_set starts t head k))

  tabled-so : listed_of tabled (member_set starts t head k) false ≡ classes_at permissions operations starts t head k
  tabled-so = classes_listed tabled (λ o l. table_get most_operations (class_among permissions operations k (member_set starts t head k)) o l)

  -- a role without a part in the group
  pub listed-none : (members : ℕ) (list : List ℕ) → members ≡ member_set starts t head k → members ≡ 0 → (0 ≡ length (classes_at permissions operations starts t head k)) × (list ≡ wrote (classes_at permissions operations starts t head k) list)
  unfolding listed_of
  listed-none members list e z =
      let n : classes_at permissions operations starts t head k ≡ [] = sym tabled-so ∙ among-nobody tabled (member_set starts t head k) (sym e ∙ z) in
      (sym (ap length n), sym (ap (λ (l : List ℕ). wrote l list) n))

  -- none of its parts is of the group
  pub classes_none : ((i : ℕ) → i is_in parts_of starts k → in_group t head i ≡ false) → classes_at permissions operations starts t head k ≡ []
  unfolding classes_at parts_at
  classes_none h = ap (λ (l : List ℕ). sort ltb (map (class_at permissions operations t k) l)) (nobody (parts_of starts k) h)
    where
      nobody : (l : List ℕ) → ((i : ℕ) → i is_in l → in_group t head i ≡ false) → keep (in_group t head) l ≡ []
      nobody [] f = refl
      nobody (x ∷ xs) f = ap₂ (λ (b : Bool) (m : List ℕ). cond b (x ∷ m) m) (f x (Memᴰ.head refl)) (nobody xs (λ i m. f i (Memᴰ.tail m)))

  -- what is listed are the operation sets of the role's parts
  pub listed-role : (table : List ℕ) (members r : ℕ) (out list : List ℕ) → ClassTable permissions operations k members table → members ≡ member_set starts t head k
      → (r ≡ length (listed_of table members false)) × (out ≡ wrote (listed_of table members false) list)
      → (r ≡ length (classes_at permissions operations starts t head k)) × (out ≡ wrote (classes_at permissions operations starts t head k) list)
  listed-role table members r out list h e w =
      let n : listed_of table members false ≡ classes_at permissions operations starts t head k = ap (λ (m : ℕ). listed_of table m false) e ∙ classes_listed table (subst (λ (m : ℕ). ClassTable permissions operations k m table) e h) in
      (w.0 ∙ ap length n, w.1 ∙ ap (λ (l : List ℕ). wrote l list) n)

  -- a role has no more classes than there may be operations
  pub classes_most : length (classes_at permissions operations starts t head k) ≤ most_operations
  unfolding listed_of values_among member_set size
  classes_most =
      let leads = keep (bit (member_set starts t head k)) (up_to 64) in
      within (ap length (sym tabled-so)) (sort-most ltb (map (λ x. get_or tabled x 0) leads)) (length-map leads (λ x. get_or tabled x 0))
      (size_mask most_operations (λ o. any (led_by t head o) (parts_of starts k)) (omega arith)) (keep-most (λ o. any (led_by t head o) (parts_of starts k)) (up_to most_operations)) (from-length 0 most_operations)
    where
      within : {a b c d e f : ℕ} → a ≡ b → b ≤ c → c ≡ d → d ≡ e → e ≤ f → f ≡ most_operations → a ≤ most_operations
      within p q r s u v = omega arith

-- ---- cost

module _ (distinct having inside kinds : List ℕ) (t : List ℕ) (head kept i : ℕ) where
  -- a conjunct costs no more than 4096
  pub cost-most : place_cost_in distinct having inside kinds t head kept i ≤ 4096
  unfolding place_cost_in
  cost-most = go (bit kept i) (set_place kinds i) (listed_at distinct having inside t head i) (listed-most distinct having inside t head i)
    where
      go : (b set : Bool) (l : List ℕ) → length l ≤ 64 → cond b (cond set (sum size l) (length l)) 0 ≤ 4096
      go true true l h = let k = sum-most 64 size l (λ v m. size-most v) in omega arith
      go true false l h = omega arith
      go false set l h = omega arith

module _ (distinct having inside kinds : List ℕ) (t : List ℕ) (head kept : ℕ) where
  -- nor do the seven of a side cost more than that each
  pub side-most : (side : ℕ) → side_cost_in distinct having inside kinds t head kept side ≤ 28672
  unfolding side_cost_in
  side-most side = sum-most 4096 (λ j. place_cost_in distinct having inside kinds t head kept (side_place side j)) (up_to 7) (λ j m. cost-most distinct having inside kinds t head kept (side_place side j))

  -- so what a rule's cost is made of is small
  pub sums_most : AtMost 28672 (rule_sums_in distinct having inside kinds t head kept)
  unfolding rule_sums_in
  sums_most = let o = size-most (words_at t head).ops in let a = size-most (atom_set kept) in (side-most 0, side-most 1, omega (arith, o), omega (arith, a))

  -- and it is what was counted
  pub sums_counted : {users resources operations atoms set : ℕ} → users ≡ side_cost_in distinct having inside kinds t head kept 0 → resources ≡ side_cost_in distinct having inside kinds t head kept 1
      → operations ≡ size (operations_at t head) → atoms ≡ size set → set ≡ atom_set kept
      → record { users = users; resources = resources; operations = operations; atoms = atoms } ≡ rule_sums_in distinct having inside kinds t head kept
  unfolding rule_sums_in
  sums_counted u r o a e = sums_same u r o (a ∙ ap size e)
