-- Writing one run of bytes after the other: the tail of the output is lent on, and what stands behind the runs stays as it was.
-- Assumes nothing.
use Rattle.std.specs.Prelude.{ℕ, zero, suc, ◌+◌, ◌-◌, ◌≤◌, ◌<◌, length, get_or, take, drop, List, [], ◌∷◌, ◌++◌, ◌≡◌, refl}
use borrow.Rule.Slice.PartMut.{put_mid}
use Rattle.std.proofs.Common.{length-append, length-drop, drop_of_length-le, take_at, drop_at, drop-drop, take_all, append_assoc, append-nil, sym, ap, ap₂, ◌∙◌, subst, add-suc, suc-add, zero-add, arith}
use Rattle.write_lines.specs.Writing.{wrote}
use Rattle.sets.specs.ListLaws.{from_next}
use Rattle.sets.specs.Tests.{each, from, up_to}

-- what `&mut out[at..]` lends
abbrev pub tail_of : List ℕ → ℕ → List ℕ
tail_of out at = take (length out - at) (drop at out)

-- the output when what was lent comes back
abbrev pub back_in : List ℕ → ℕ → List ℕ → List ℕ
back_in out at tail = put_mid at (length out - at) out tail

tail-length : (at : ℕ) (s : List ℕ) → length (tail_of s at) ≡ length s - at
tail-length at s = ap length (take_all (length s - at) (drop at s) (simp length-drop (omega arith))) ∙ length-drop at s

-- writing keeps the length
pub length-wrote : (e o : List ℕ) → length e ≤ length o → length (wrote e o) ≡ length o
length-wrote e o h = length-append e (drop (length e) o) ∙ ap (λ (k : ℕ). length e + k) (length-drop (length e) o) ∙ omega arith

-- the output while `at` bytes are written and others are left to be written, so that the whole will be
pub record Writing (whole out₀ out : List ℕ) (at : ℕ) (left : List ℕ) : Type 0 where
  pub done : List ℕ
  pub far : length done ≡ at
  pub is : out ≡ wrote done out₀
  pub joined : done ++ left ≡ whole
  pub long : length out ≡ length out₀
  pub room : at + length left ≤ length out₀

-- what a writer that is lent the rest leaves there
seam : (done e o : List ℕ) (at : ℕ) → length done ≡ at → at + length e ≤ length o → back_in (wrote done o) at (wrote e (tail_of (wrote done o) at)) ≡ wrote (done ++ e) o
seam done e o at p h =
    let x = wrote done o in
    let t : drop at x ≡ drop at o = drop_at done (drop (length done) o) at p ∙ ap (λ (n : ℕ). drop n o) p in
    let n : length x ≡ length o = length-wrote done o (omega arith) in
    let m : length (drop at o) ≤ length o - at = simp length-drop (omega arith) in
    rw (take_at done (drop (length done) o) at p, t, n, take_all (length o - at) (drop at o) m, drop_of_length-le (drop at o) m, append-nil, drop-drop, append_assoc, length-append done e, p)

-- nothing is written
pub begin : (whole o : List ℕ) → length whole ≤ length o → Writing whole o o 0 whole
begin whole o h = record { done = []; far = refl; is = refl; joined = refl; long = refl; room = omega arith }

-- there is room for the next run in what is lent
pub room_for : (whole o out left e : List ℕ) (at : ℕ) → Writing whole o out at (e ++ left) → length e ≤ length (tail_of out at)
room_for whole o out left e at w =
    let r : at + (length e + length left) ≤ length o = rw length-append at w.room in
    let n = tail-length at out in
    let l = w.long in
    omega arith

-- and so the place behind it is within the output
pub place-within : (whole o out left e : List ℕ) (at : ℕ) → Writing whole o out at (e ++ left) → at + length e ≤ length o
place-within whole o out left e at w = let r : at + (length e + length left) ≤ length o = rw length-append at w.room in omega arith

-- the next run is written
pub write_on : (whole o out left e : List ℕ) (at : ℕ) (tail : List ℕ) → Writing whole o out at (e ++ left) → tail ≡ wrote e (tail_of out at) → Writing whole o (back_in out at tail) (at + length e) left
write_on whole o out left e at tail w q =
    let r = place-within whole o out left e at w in
    let i : back_in out at tail ≡ wrote (w.done ++ e) o = rw (q, w.is) (seam w.done e o at w.far r) in
    let n : length (w.done ++ e) ≡ at + length e = length-append w.done e ∙ ap (λ (k : ℕ). k + length e) w.far in
    let k : at + (length e + length left) ≤ length o = rw length-append at w.room in
    record {
      done = w.done ++ e;
      far = n;
      is = i;
      joined = append_assoc w.done e left ∙ w.joined;
      long = ap length i ∙ length-wrote (w.done ++ e) o (omega arith);
      room = omega arith;
    }

-- all is written
pub all-written : (whole o out : List ℕ) (at : ℕ) → Writing whole o out at [] → (at ≡ length whole) × (out ≡ wrote whole o)
all-written whole o out at w =
    let e = sym (append-nil w.done) ∙ w.joined in
    (sym w.far ∙ ap length e, w.is ∙ ap (λ (l : List ℕ). wrote l o) e)

-- ---- a loop that writes a run for each number below n

from_end : (i n : ℕ) → i ≡ n → from i (n - i) ≡ []
from_end i n h = let e : n - i ≡ 0 = omega arith in ap (from i) e

-- the runs of the numbers below i are written
abbrev pub Runs : (ℕ → List ℕ) → ℕ → (out₀ out : List ℕ) → ℕ → ℕ → Type 0
Runs f n o out at i = Writing (each f (up_to n)) o out at (each f (from i (n - i)))

module _ (f : ℕ → List ℕ) (n : ℕ) (o : List ℕ) where
  -- none is
  pub runs_begin : length (each f (up_to n)) ≤ length o → Runs f n o o 0 0
  runs_begin h = let e : n ≡ n - 0 = omega arith in subst (λ (k : ℕ). Writing (each f (up_to n)) o o 0 (each f (from 0 k))) e (begin (each f (up_to n)) o h)

  module _ (out : List ℕ) (at i : ℕ) (h : i < n) (w : Runs f n o out at i) where
    next : Writing (each f (up_to n)) o out at (f i ++ each f (from (i + 1) (n - (i + 1))))
    next = subst (λ (l : List ℕ). Writing (each f (up_to n)) o out at (each f l)) (from_next i n h) w

    -- there is room for the next in what is lent
    pub runs_room : length (f i) ≤ length (tail_of out at)
    runs_room = room_for (each f (up_to n)) o out (each f (from (i + 1) (n - (i + 1)))) (f i) at next

    -- and so the place behind it is within the output
    pub runs_within : at + length (f i) ≤ length o
    runs_within = place-within (each f (up_to n)) o out (each f (from (i + 1) (n - (i + 1)))) (f i) at next

    -- one more is
    pub runs_more : (tail : List ℕ) (k : ℕ) → tail ≡ wrote (f i) (tail_of out at) → k ≡ length (f i) → Runs f n o (back_in out at tail) (at + k) (i + 1)
    runs_more tail k q e =
        subst (λ (x : ℕ). Writing (each f (up_to n)) o (back_in out at tail) (at + x) (each f (from (i + 1) (n - (i + 1))))) (sym e)
        (write_on (each f (up_to n)) o out (each f (from (i + 1) (n - (i + 1)))) (f i) at tail next q)

  -- all are
  pub runs_end : (out : List ℕ) (at i : ℕ) → i ≡ n → Runs f n o out at i → (at ≡ length (each f (up_to n))) × (out ≡ wrote (each f (up_to n)) o)
  runs_end out at i e w = all-written (each f (up_to n)) o out at (subst (λ (l : List ℕ). Writing (each f (up_to n)) o out at (each f l)) (from_end i n e) w)

-- a run for each member of a list that stands at the front of a table
pub runs_list : (g : ℕ → List ℕ) (l rest : List ℕ) → each (λ k. g (get_or (l ++ rest) k 0)) (up_to (length l)) ≡ each g l
runs_list g l rest = go (λ k. get_or (l ++ rest) k 0) 0 l (λ i h. ap (λ (k : ℕ). get_or (l ++ rest) k 0) (zero-add i) ∙ front l i h)
  where
    front : (l : List ℕ) (i : ℕ) → i < length l → get_or (l ++ rest) i 0 ≡ get_or l i 0
    front [] i h = absurd (omega arith)
    front (x ∷ xs) zero h = refl
    front (x ∷ xs) (suc i) h = front xs i (omega arith)

    go : (p : ℕ → ℕ) (k : ℕ) (l : List ℕ) → ((i : ℕ) → i < length l → p (k + i) ≡ get_or l i 0) → each (λ j. g (p j)) (from k (length l)) ≡ each g l
    go p k [] h = refl
    go p k (x ∷ xs) h =
        let z : k ≡ k + 0 = omega arith in
        ap₂ (λ (a b : List ℕ). a ++ b) (ap g (ap p z ∙ h 0 (omega arith)))
        (go p (suc k) xs (λ i m. ap p (suc-add k i ∙ sym (add-suc k i)) ∙ h (suc i) (omega arith)))
