-- Writing a run for each member of a set, least first, where the other numbers below a bound have no run: what a loop over all numbers below the
-- bound would write. And the sets over which atoms and roles are written.
-- Assumes nothing.
use Rattle.std.specs.Prelude.{ℕ, ◌+◌, ◌/◌, ◌%◌, ◌^◌, ◌≤◌, ◌<◌, eqb, ltb, length, Bool, true, false, cond, not, List, [], ◌∷◌, ◌++◌, ◌⊎◌, ◌≡◌, refl}
use Rattle.std.proofs.Common.{eqb-true, ltb-true, ltb-false, pow_mono, inl, inr, sym, ap₂, ◌∙◌, subst, lt_of_lt_of_le, arith}
use Rattle.std.proofs.lemmas.Bool.{eqb-false, not-true}
use mathlib.Core.List.Memᴰ
use Rattle.std.proofs.Math.Path.{ap}
use Rattle.mine_groups.specs.Scratch.{Stands}
use Rattle.write_lines.specs.Writing.{wrote}
use Rattle.write_lines.proofs.WritingLaws.{tail_of, back_in, Writing, begin, room_for, place-within, write_on, all-written}
use Rattle.sets.specs.MemberLaws.{least_in, bit-less, less-less}
use Rattle.mine_theory.specs.Lines.RuleLines.{link_bytes, part_bytes, atom_set}
use Rattle.sets.specs.Lowest.{lowest_from}
use Rattle.sets.specs.MaskLaws.{bit-out, least-most, mask_lt}
use Rattle.sets.specs.Sets.{bit, less_one}
use Rattle.sets.specs.SetLaws.{bit-none, bit_mask}
use Rattle.sets.specs.Sorted.{and-then}
use Rattle.sets.specs.SortedLaws.{keep-rising, rising_ext, from-rising}
use Rattle.sets.specs.Tests.{Is, ◌is_in◌, keep, each, up_to}
use Rattle.sets.specs.TestLaws.{and_in, and_l, and_r, never, test, keep_in, keep_out, up_to_in, up_to-out, not_in}
use Rattle.write_theory.specs.RuleTable.{atom_bytes_at, atom_bytes_in, role_bytes_in, part_bytes_in}
use Rattle.write_roles.specs.GroupRoleLaws.{none-listed, roles-low}
use Rattle.write_roles.specs.GroupRoles.{roles_for}

-- ---- the members of a set, least first

abbrev pub chosen : ℕ → ℕ → List ℕ
chosen n m = keep (bit m) (up_to n)

-- only those that have a run
each-kept : (f : ℕ → List ℕ) (p : ℕ → Bool) (l : List ℕ) → ((i : ℕ) → i is_in l → p i ≡ false → f i ≡ []) → each f l ≡ each f (keep p l)
each-kept f p [] h = refl
each-kept f p (x ∷ xs) h = go (p x) refl (each-kept f p xs (λ i m. h i (Memᴰ.tail m)))
  where
    go : (b : Bool) → p x ≡ b → each f xs ≡ each f (keep p xs) → f x ++ each f xs ≡ each f (cond b (x ∷ keep p xs) (keep p xs))
    go true e r = ap (λ (l : List ℕ). f x ++ l) r
    go false e r = ap (λ (l : List ℕ). l ++ each f xs) (h x (Memᴰ.head refl) e) ∙ r

-- nobody
chosen_none : (n m : ℕ) → m ≡ 0 → chosen n m ≡ []
chosen_none n m e = go (up_to n)
  where
    go : (l : List ℕ) → keep (bit m) l ≡ []
    go [] = refl
    go (x ∷ xs) = ap₂ (λ (b : Bool) (k : List ℕ). cond b (x ∷ k) k) (ap (λ (k : ℕ). bit k x) e ∙ bit-none x) (go xs)

module _ (n m y : ℕ) (wide : n ≤ 64) (h : m < 2 ^ n) (z : 0 < m) (q : y ≡ lowest_from (bit m) 0 64) where
  small : m < 2 ^ 64
  small = lt_of_lt_of_le h (pow_mono wide)

  member : Is (bit m y)
  member = (least_in m small y q z).1

  -- the least is below the bound
  least-low : y < n
  least-low = test (ltb y n) (λ e. ltb-true y n e) (λ e. never member (bit-out n m y h (ltb-false y n e)))

  less-is : less_one m (lowest_from (bit m) 0 64) < m
  less-is = subst (λ (k : ℕ). less_one m k < m) q (less-less m small y member)

  -- it comes first, and then the others
  chosen-first : chosen n m ≡ y ∷ chosen n (less_one m y)
  chosen-first =
      rising_ext {R = ◌<◌} (λ a b c d. omega arith) (keep-rising (bit m) (from-rising 0 n)) (and-then {x = y} above (keep-rising (bit (less_one m y)) (from-rising 0 n))) there (λ x k. back x (Memᴰ.cases_cons k))
    where
      above : (x : ℕ) → x is_in chosen n (less_one m y) → y < x
      above x k =
          let b = sym (bit-less m small y x) ∙ (keep_out (bit (less_one m y)) (up_to n) k).1 in
          let d = eqb-false x y (not-true (eqb x y) (and_r (bit m x) (not (eqb x y)) b)) in
          let l = least-most (bit m) 64 x (and_l (bit m x) (not (eqb x y)) b) in
          omega arith

      there : (x : ℕ) → x is_in chosen n m → x is_in (y ∷ chosen n (less_one m y))
      there x k =
          let t = keep_out (bit m) (up_to n) k in
          test (eqb x y)
          (λ e. Memᴰ.head (eqb-true x y e))
          (λ e. Memᴰ.tail (keep_in (bit (less_one m y)) t.0 (bit-less m small y x ∙ and_in t.1 (not_in (eqb x y) e))))

      back : (x : ℕ) → (x ≡ y) ⊎ (x is_in chosen n (less_one m y)) → x is_in chosen n m
      back x (inl e) = rw e (keep_in (bit m) (up_to_in least-low) member)
      back x (inr k) =
          let t = keep_out (bit (less_one m y)) (up_to n) k in
          keep_in (bit m) t.0 (and_l (bit m x) (not (eqb x y)) (sym (bit-less m small y x) ∙ t.1))

-- ---- a loop that writes a run for each member

-- the runs of all numbers below n are written but for those of the members that are left
abbrev pub Visits : (ℕ → List ℕ) → ℕ → (out₀ out : List ℕ) → ℕ → ℕ → Type 0
Visits f n o out at rest = (rest < 2 ^ n) × Writing (each f (up_to n)) o out at (each f (chosen n rest))

module _ (f : ℕ → List ℕ) (n : ℕ) (wide : n ≤ 64) (o : List ℕ) where
  -- none is, and nobody else has one
  pub visits_begin : (m : ℕ) → m < 2 ^ n → ((i : ℕ) → i < n → bit m i ≡ false → f i ≡ []) → length (each f (up_to n)) ≤ length o → Visits f n o o 0 m
  visits_begin m h none r =
      (h, subst (λ (l : List ℕ). Writing (each f (up_to n)) o o 0 l) (each-kept f (bit m) (up_to n) (λ i k. none i (up_to-out n k))) (begin (each f (up_to n)) o r))

  -- what is written is within the output
  pub visits_at : (out : List ℕ) (at rest : ℕ) → Visits f n o out at rest → at ≤ length out
  visits_at out at rest v = let r = v.1.room in let l = v.1.long in omega arith

  module _ (out : List ℕ) (at rest y : ℕ) (v : Visits f n o out at rest) (z : 0 < rest) (q : y ≡ lowest_from (bit rest) 0 64) where
    -- the least of those left is below the bound
    pub visits_low : y < n
    visits_low = least-low n rest y wide v.0 z q

    next : Writing (each f (up_to n)) o out at (f y ++ each f (chosen n (less_one rest y)))
    next = subst (λ (l : List ℕ). Writing (each f (up_to n)) o out at (each f l)) (chosen-first n rest y wide v.0 z q) v.1

    -- there is room for its run in what is lent
    pub visits_room : length (f y) ≤ length (tail_of out at)
    visits_room = room_for (each f (up_to n)) o out (each f (chosen n (less_one rest y))) (f y) at next

    -- and so the place behind it is within the output
    pub visits_within : at + length (f y) ≤ length o
    visits_within = place-within (each f (up_to n)) o out (each f (chosen n (less_one rest y))) (f y) at next

    module _ (left : ℕ) (e : left ≡ less_one rest (lowest_from (bit rest) 0 64)) where
      -- fewer are left
      pub visits_fewer : left < rest
      visits_fewer = let l = less-is n rest y wide v.0 z q in omega arith

      -- one more is written
      pub visits_more : (tail : List ℕ) (k : ℕ) → tail ≡ wrote (f y) (tail_of out at) → k ≡ length (f y) → Visits f n o (back_in out at tail) (at + k) left
      visits_more tail k w d =
          let l = visits_fewer in
          let b = v.0 in (
            omega arith,
            subst (λ (x : ℕ). Writing (each f (up_to n)) o (back_in out at tail) (at + x) (each f (chosen n left))) (sym d)
                (subst (λ (x : ℕ). Writing (each f (up_to n)) o (back_in out at tail) (at + length (f y)) (each f (chosen n x))) (ap (less_one rest) q ∙ sym e)
                (write_on (each f (up_to n)) o out (each f (chosen n (less_one rest y))) (f y) at tail next w)),
          )

  -- all are
  pub visits_end : (out : List ℕ) (at rest : ℕ) → rest ≤ 0 → Visits f n o out at rest → (at ≡ length (each f (up_to n))) × (out ≡ wrote (each f (up_to n)) o)
  visits_end out at rest e v = all-written (each f (up_to n)) o out at (subst (λ (l : List ℕ). Writing (each f (up_to n)) o out at (each f l)) (chosen_none n rest (omega arith)) v.1)

-- ---- atoms
-- an atom that is not among them has no line
atom-none : (kept i : ℕ) → i < 36 → bit (atom_set kept) i ≡ false → atom_bytes_at kept i ≡ []
unfolding atom_bytes_at
atom-none kept i l h = ap (λ (b : Bool). cond b (link_bytes (i / 6) (i % 6)) []) (sym (bit_mask 36 (λ j. bit kept (14 + j)) i l) ∙ h)

-- none is written, and these are left
pub atoms-begin : (kept m : ℕ) (o : List ℕ) → m ≡ atom_set kept → length (atom_bytes_in kept) ≤ length o → Visits (atom_bytes_at kept) 36 o o 0 m
unfolding atom_bytes_in
atoms-begin kept m o e r =
    visits_begin (atom_bytes_at kept) 36 (omega arith) o m (omega (arith, e, mask_lt 36 (λ j. bit kept (14 + j)))) (λ i l h. atom-none kept i l (ap (λ (k : ℕ). bit k i) (sym e) ∙ h)) r

-- ---- parts

module _ (permissions : List ℕ) (operations : ℕ) (starts t : List ℕ) (S : Stands t starts) (head : ℕ) where
  -- a role that has no part in the group has no line
  part_none : (i : ℕ) → i < 32 → bit (roles_for starts t head) i ≡ false → role_bytes_in permissions operations starts t head i ≡ []
  unfolding role_bytes_in
  part_none i l h = ap (each (part_bytes i)) (none-listed permissions operations starts t S head i l h)

  -- none is written, and the others are left
  pub parts-begin : (m : ℕ) (o : List ℕ) → m ≡ roles_for starts t head → length (part_bytes_in permissions operations starts t head) ≤ length o → Visits (role_bytes_in permissions operations starts t head) 32 o o 0 m
  unfolding part_bytes_in
  parts-begin m o e r =
      visits_begin (role_bytes_in permissions operations starts t head) 32 (omega arith) o m (omega (arith, e, roles-low starts t head)) (λ i l h. part_none i l (ap (λ (k : ℕ). bit k i) (sym e) ∙ h)) r
