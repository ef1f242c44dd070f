-- Groups from a number on: what becomes of them by a join, and how the groups of two stretches of numbers stand behind one another.
-- Assumes nothing.
use Prim.Native.Nat.{ℕ, ◌+◌, ◌-◌, ◌≤◌, ◌<◌}
use Rattle.std.proofs.Common.{le-leb, sym, ◌∙◌}
use Rattle.std.proofs.lemmas.Bool.{lt-leb}
use Rattle.std.specs.Prelude.{eqb, length, Bool, true, false, ◌&&◌, not, ◌≡◌}
use Rattle.std.proofs.Math.Dec.{leb}
use Rattle.std.proofs.lemmas.List.{length-map}
use Rattle.std.proofs.Math.Bool.{cond, and_assoc}
use mathlib.Core.List.Memᴰ
use mathlib.Core.List.{List, [], ◌∷◌, ◌++◌, map, map-append}
use Rattle.std.proofs.Math.Path.{refl, ap, ap₂, fun_ext}
use native.Mathlib.Omega.{arith}
use Rattle.mine_theory.specs.Search.Frontier.{Groups, groups_in, within, joined_at, ok_at}
use Rattle.mine_theory.proofs.Search.FrontierLaws.{empty_left}
use Rattle.policy.proofs.MergeLaws.{run, merges, run-enough}
use Rattle.policy.specs.Merging.{first_stage, start_groups}
use Rattle.policy.proofs.StageLaws.{first_next}
use Rattle.sets.specs.ListLaws.{keep_ext, keep_all, keep-most, from-length, from_split}
use Rattle.sets.specs.TestLaws.{keep_out, from_out, up_to-out}
use Rattle.sets.specs.Tests.{Is, ◌is_in◌, keep, from, up_to}

-- ---- lists

keep_append : {A : Type 0} (f : A → Bool) (s t : List A) → keep f (s ++ t) ≡ keep f s ++ keep f t
keep_append f [] t = refl
keep_append f (x ∷ s) t = go (f x) (keep_append f s t)
  where
    go : (b : Bool) → keep f (s ++ t) ≡ keep f s ++ keep f t → cond b (x ∷ keep f (s ++ t)) (keep f (s ++ t)) ≡ cond b (x ∷ keep f s) (keep f s) ++ keep f t
    go true e = ap (λ l. x ∷ l) e
    go false e = e

keep_no : {A : Type 0} (f : A → Bool) (l : List A) → ((a : A) → a is_in l → f a ≡ false) → keep f l ≡ []
keep_no f [] h = refl
keep_no f (x ∷ l) h = rw (h x (Memᴰ.head refl)) (keep_no f l (λ a m. h a (Memᴰ.tail m)))

map_ext : {A B : Type 0} (f g : A → B) (l : List A) → ((a : A) → a is_in l → f a ≡ g a) → map f l ≡ map g l
map_ext f g [] h = refl
map_ext f g (x ∷ l) h = ap₂ ◌∷◌ (h x (Memᴰ.head refl)) (map_ext f g l (λ a m. h a (Memᴰ.tail m)))

-- ---- groups from a number on

module _ {A : Type 0} (first : ℕ) (s : Groups A) where
  pub within_on : (k : ℕ) → first ≤ k → (within first s).alive k ≡ s.alive k
  unfolding within
  within_on k h = rw (le-leb first k h) refl

  pub within-before : (k : ℕ) → k < first → (within first s).alive k ≡ false
  unfolding within
  within-before k h = rw (lt-leb first k h) refl

  -- a join commutes with it
  pub joined-within : (join : A → A → A) (i j : ℕ) → joined_at join (within first s) i j ≡ within first (joined_at join s i j)
  unfolding within joined_at
  joined-within join i j =
      ap (λ (f : ℕ → Bool). record { alive = f; group = λ k. cond (eqb k i) (join (s.group i) (s.group j)) (s.group k) })
      (fun_ext λ k. and_assoc (leb first k) (s.alive k) (not (eqb k j)))

-- pairs of them
module _ {A : Type 0} (ok : A → A → Bool) (first : ℕ) (s : Groups A) where
  -- a head before the number is in none
  pub pair-before : (i j : ℕ) → i < first → ok_at ok (within first s) i j ≡ false
  pair-before i j h = empty_left ok (within first s) i j (within-before first s i h)

  -- heads from there on are a pair if they are one of all groups
  pub pair-on : (i j : ℕ) → first ≤ i → i < j → ok_at ok (within first s) i j ≡ ok_at ok s i j
  unfolding ok_at within
  pair-on i j a b = ap₂ (λ (x y : Bool). x && (y && ok (s.group i) (s.group j))) (within_on first s i a) (within_on first s j (omega arith))

module _ {A : Type 0} (s : Groups A) where
  -- from 0 on they are all
  pub within_all : within 0 s ≡ s
  unfolding within
  within_all = ap (λ (f : ℕ → Bool). record { alive = f; group = s.group }) (fun_ext λ k. ap (λ (b : Bool). b && s.alive k) (le-leb 0 k (omega arith)))

  -- those before a number, and those from it on
  pub groups_split : (first end : ℕ) → first ≤ end → groups_in end s ≡ groups_in first s ++ groups_in end (within first s)
  unfolding groups_in within
  groups_split first end h =
      let e : end ≡ first + (end - first) = omega arith in
      let parted : up_to end ≡ up_to first ++ from (0 + first) (end - first) = ap up_to e ∙ from_split 0 first (end - first) in
      let zero-first : 0 + first ≡ first = omega arith in
      let split : up_to end ≡ up_to first ++ from first (end - first) = parted ∙ ap (λ (k : ℕ). up_to first ++ from k (end - first)) zero-first in
      let behind : keep (λ k. leb first k && s.alive k) (up_to end) ≡ keep s.alive (from first (end - first)) =
      ap (keep (λ k. leb first k && s.alive k)) split ∙ keep_append (λ k. leb first k && s.alive k) (up_to first) (from first (end - first))
      ∙ ap₂ ◌++◌ (keep_no (λ k. leb first k && s.alive k) (up_to first) (λ k m. ap (λ (b : Bool). b && s.alive k) (lt-leb first k (up_to-out first m))))
      (keep_ext (λ k. leb first k && s.alive k) s.alive (from first (end - first)) (λ k m. ap (λ (b : Bool). b && s.alive k) (le-leb first k (from_out first (end - first) m).0))) in
      ap (map s.group) (ap (keep s.alive) split ∙ keep_append s.alive (up_to first) (from first (end - first)))
      ∙ map-append s.group (keep s.alive (up_to first)) (keep s.alive (from first (end - first)))
      ∙ ap (λ l. map s.group (keep s.alive (up_to first)) ++ map s.group l) (sym behind)

-- groups that are the same below a number
pub groups-same : {A : Type 0} (s t : Groups A) (n : ℕ) → ((k : ℕ) → k < n → (s.alive k ≡ t.alive k) × (s.group k ≡ t.group k)) → groups_in n s ≡ groups_in n t
unfolding groups_in
groups-same s t n h =
    ap (map s.group) (keep_ext s.alive t.alive (up_to n) (λ k m. (h k (up_to-out n m)).0))
    ∙ map_ext s.group t.group (keep t.alive (up_to n)) (λ k m. (h k (up_to-out n (keep_out t.alive (up_to n) m).0)).1)

-- there are no more groups than numbers
pub groups-few : {A : Type 0} (s : Groups A) (n : ℕ) → length (groups_in n s) ≤ n
unfolding groups_in
groups-few s n = let a = length-map (keep s.alive (up_to n)) s.group in let b = keep-most s.alive (up_to n) in let c = from-length 0 n in omega arith

-- numbers that are alone
pub groups-alone : (s : Groups (List ℕ)) (first end : ℕ) → first ≤ end → ((k : ℕ) → first ≤ k → k < end → Is (s.alive k) × (s.group k ≡ k ∷ [])) → groups_in end (within first s) ≡ start_groups first (end - first)
unfolding groups_in within
groups-alone s first end l h =
    let e : end ≡ first + (end - first) = omega arith in
    let zero-first : 0 + first ≡ first = omega arith in
    let split : up_to end ≡ up_to first ++ from first (end - first) = ap up_to e ∙ from_split 0 first (end - first) ∙ ap (λ (k : ℕ). up_to first ++ from k (end - first)) zero-first in
    let own : keep (λ k. leb first k && s.alive k) (up_to end) ≡ from first (end - first) =
    ap (keep (λ k. leb first k && s.alive k)) split ∙ keep_append (λ k. leb first k && s.alive k) (up_to first) (from first (end - first))
    ∙ ap₂ ◌++◌ (keep_no (λ k. leb first k && s.alive k) (up_to first) (λ k m. ap (λ (b : Bool). b && s.alive k) (lt-leb first k (up_to-out first m))))
    (keep_all (λ k. leb first k && s.alive k) (from first (end - first)) (λ k m. let b = from_out first (end - first) m in ap (λ (b : Bool). b && s.alive k) (le-leb first k b.0) ∙ (h k b.0 (omega arith)).0)) in
    ap (map s.group) own ∙ map_ext s.group (λ k. k ∷ []) (from first (end - first)) (λ k m. let b = from_out first (end - first) m in (h k b.0 (omega arith)).1)

-- ---- one run of roles more

module _ {A : Type 0} (ok : A → A → Bool) (join : A → A → A) (n : ℕ) where
  -- the groups before a number are what the first stage leaves of these segments; those from there on below `end` are merged, and the others stay:
  -- then the groups below `end` are what it leaves of one segment more
  pub runs_turn : (s t : Groups A) (first end made more : ℕ) (segments : List (List A)) → first ≤ end
      → groups_in first s ≡ (first_stage ok join n segments).0 → made ≡ (first_stage ok join n segments).1
      → ((k : ℕ) → k < first → (t.alive k ≡ s.alive k) × (t.group k ≡ s.group k))
      → (gs : List A) → groups_in end (within first s) ≡ gs → length gs ≤ n
      → groups_in end (within first t) ≡ run ok join (length (groups_in end (within first s))) (groups_in end (within first s))
      → more ≡ merges ok join (length (groups_in end (within first s))) (groups_in end (within first s))
      → (groups_in end t ≡ (first_stage ok join n (segments ++ (gs ∷ []))).0) × (made + more ≡ (first_stage ok join n (segments ++ (gs ∷ []))).1)
  runs_turn s t first end made more segments h before counted kept gs own few left merged =
      let enough = run-enough ok join n gs few in
      let next = first_next ok join n segments gs in
      let a : run ok join (length (groups_in end (within first s))) (groups_in end (within first s)) ≡ run ok join n gs =
      ap (λ (l : List A). run ok join (length l) l) own ∙ sym (ap (λ (r : List A × ℕ). r.0) enough) in
      let b : merges ok join (length (groups_in end (within first s))) (groups_in end (within first s)) ≡ merges ok join n gs =
      ap (λ (l : List A). merges ok join (length l) l) own ∙ sym (ap (λ (r : List A × ℕ). r.1) enough) in
      let c = merged ∙ b in
      let d = next.1 in
      (groups_split t first end h ∙ ap₂ ◌++◌ (groups-same t s first kept ∙ before) (left ∙ a) ∙ sym next.0, omega arith)
