-- The laws of the marks of heads, and which heads are open: those that could be joined with a group.
-- Assumes nothing.
use Rattle.std.specs.Prelude.{ℕ, ◌+◌, ◌*◌, ◌/◌, ◌%◌, ◌-◌, ◌≤◌, ◌<◌, min, eqb, ltb, leb, length, get_or, Bool, false, ◌&&◌, not, ◌||◌, List, ◌≡◌}
use Rattle.std.proofs.Common.{eqb-true, eq-eqb, ne_eqb, ltb-true, ltb-false, lt-ltb, le-ltb, le-leb, get_or-set_same, get_or-set_other, sym, ap, ◌∙◌, ap₂, arith}
use Rattle.std.proofs.lemmas.Bool.{eqb-false, lt-leb}
use Rattle.std.proofs.Math.ListN.{get_or-eq_default}
use Rattle.std.proofs.Math.Bool.{and-true, and-false, and_comm, and_assoc}
use Rattle.mine_words.specs.AtomLaws.{keeping}
use Rattle.mine_heads.specs.Heads.{mark_words, in_window, is_head_of, is_marked, unmarked, Marked, MarkedBelow, Open}
use Rattle.mine_corners.specs.Pairing.{reaches}
use Rattle.mine_parts.specs.Layout.{most_parts, words_at, is_head_at}
use Rattle.sets.specs.MaskLaws.{mask_same, mask_wide}
use Rattle.sets.specs.SetLaws.{bit-none, bit_mask}
use Rattle.sets.specs.Sets.{bit, mask_of}
use Rattle.sets.specs.Tests.{Is}
use Rattle.sets.specs.TestLaws.{test, and_in, and_l, and_r}

-- a set without one member, as the code works it out
pub mark_out : {w m : ℕ} (old y : ℕ) → w ≡ mask_of 64 (λ k. bit 0 k || eqb k y) → m ≡ mask_of 64 (λ k. bit old k && not (bit w k)) → m ≡ mask_of 64 (λ k. bit old k && not (eqb k y))
mark_out {w} old y e f = f ∙ mask_same 64 (λ k. bit old k && not (bit w k)) (λ k. bit old k && not (eqb k y)) (λ k l. ap (λ (b : Bool). bit old k && not b) (ap (λ (x : ℕ). bit x k) e ∙ bit_mask 64 (λ k. bit 0 k || eqb k y) k l ∙ ap (λ (b : Bool). b || eqb k y) (bit-none k)))

-- part j is marked no more, and all others are what they were
pub unmarked-at : (marks : List ℕ) (j k : ℕ) → length marks ≡ mark_words → j < most_parts → is_marked (unmarked marks j) k ≡ (is_marked marks k && not (eqb k j))
unmarked-at marks j k long l = test (eqb (k / 64) (j / 64)) (λ e. here (eqb-true (k / 64) (j / 64) e)) (λ e. there (eqb-false (k / 64) (j / 64) e))
  where
    word : ℕ
    word = mask_of 64 (λ x. bit (get_or marks (j / 64) 0) x && not (eqb x (j % 64)))

    same_mark : k / 64 ≡ j / 64 → eqb (k % 64) (j % 64) ≡ eqb k j
    same_mark q = test (eqb k j)
        (λ e. let d = eqb-true k j e in eq-eqb (k % 64) (j % 64) (ap (λ (x : ℕ). x % 64) d) ∙ sym e)
        (λ e. let d = eqb-false k j e in ne_eqb (k % 64) (j % 64) (λ z. omega arith) ∙ sym e)

    here : k / 64 ≡ j / 64 → is_marked (unmarked marks j) k ≡ (is_marked marks k && not (eqb k j))
    here q =
        ap (λ (x : ℕ). bit (get_or (unmarked marks j) x 0) (k % 64)) q
        ∙ ap (λ (x : ℕ). bit x (k % 64)) (get_or-set_same marks (j / 64) (mask_of 64 (λ x. bit (get_or marks (j / 64) 0) x && not (eqb x (j % 64)))) 0 (omega arith))
        ∙ bit_mask 64 (λ x. bit (get_or marks (j / 64) 0) x && not (eqb x (j % 64))) (k % 64) (omega arith)
        ∙ ap₂ (λ (x : ℕ) (b : Bool). bit (get_or marks x 0) (k % 64) && not b) (sym q) (same_mark q)

    there : (k / 64 ≡ j / 64 → ⊥) → is_marked (unmarked marks j) k ≡ (is_marked marks k && not (eqb k j))
    there d =
        ap (λ (x : ℕ). bit x (k % 64)) (get_or-set_other marks (j / 64) (k / 64) (mask_of 64 (λ x. bit (get_or marks (j / 64) 0) x && not (eqb x (j % 64)))) 0 d)
        ∙ sym (ap (λ (b : Bool). is_marked marks k && not b) (ne_eqb k j (λ e. d (ap (λ (x : ℕ). x / 64) e))) ∙ and-true (is_marked marks k))

-- ---- the marks of the heads in a window

-- what is in a window
pub window_in : (first end k : ℕ) → first ≤ k → k < end → Is (in_window first end k)
window_in first end k a b = and_in (le-leb first k a) (lt-ltb k end b)

pub window_below : (first end : ℕ) {k : ℕ} (b : Bool) → Is (in_window first end k && b) → k < end
window_below first end {k} b h = ltb-true k end (and_r (leb first k) (ltb k end) (and_l (in_window first end k) b h))

module _ (first end : ℕ) (few : end ≤ most_parts) (t : List ℕ) where
  -- what is past the words of marks is not in the window
  past_window : (k : ℕ) → most_parts ≤ k → is_head_of first end t k ≡ false
  past_window k h = ap (λ (b : Bool). b && is_head_at t k) (ap (λ (b : Bool). leb first k && b) (le-ltb k end (omega arith)) ∙ and-false (leb first k))

  -- nor marked
  past-marks : (marks : List ℕ) (k : ℕ) → length marks ≡ mark_words → most_parts ≤ k → is_marked marks k ≡ is_head_of first end t k
  past-marks marks k long h = ap (λ (x : ℕ). bit x (k % 64)) (get_or-eq_default marks 0 (omega arith)) ∙ bit-none (k % 64) ∙ sym (past_window k h)

  -- the words of all marks
  pub marks-made : (marks : List ℕ) → length marks ≡ mark_words → ((w : ℕ) → w < mark_words → get_or marks w 0 ≡ mask_of 64 (λ k. is_head_of first end t (64 * w + k))) → Marked first end marks t
  marks-made marks long words = record { long = long; right = λ k. test (ltb k most_parts) (λ e. there k (ltb-true k most_parts e)) (λ e. past-marks marks k long (ltb-false k most_parts e)) }
    where
      there : (k : ℕ) → k < most_parts → is_marked marks k ≡ is_head_of first end t k
      there k h =
          let z : 64 * (k / 64) + k % 64 ≡ k = omega arith in
          ap (λ (x : ℕ). bit x (k % 64)) (words (k / 64) (omega arith)) ∙ bit_mask 64 (λ x. is_head_of first end t (64 * (k / 64) + x)) (k % 64) (omega arith) ∙ ap (is_head_of first end t) z

module _ (t : List ℕ) (word : ℕ) where
  -- where c marks of a word are those of parts before n
  marks-below : {c : ℕ} (n : ℕ) → c ≡ min 64 (n - 64 * word) → (k : ℕ) → k < 64 → ltb k c ≡ ltb (64 * word + k) n
  marks-below {c} n e k l = test (ltb k c)
      (λ q. let h = ltb-true k c q in q ∙ sym (lt-ltb (64 * word + k) n (omega arith)))
      (λ q. let h = ltb-false k c q in q ∙ sym (le-ltb (64 * word + k) n (omega arith)))

  -- the heads of a word before `end`
  pub word_made : {m c : ℕ} (end : ℕ) → c ≡ min 64 (end - 64 * word) → m ≡ mask_of c (λ k. is_head_at t (64 * word + k)) → m ≡ mask_of 64 (λ k. ltb (64 * word + k) end && is_head_at t (64 * word + k))
  word_made {m} {c} end e f =
      f ∙ mask_wide c 64 (λ k. is_head_at t (64 * word + k)) (omega arith)
      ∙ mask_same 64 (λ k. ltb k c && is_head_at t (64 * word + k)) (λ k. ltb (64 * word + k) end && is_head_at t (64 * word + k)) (λ k l. ap (λ (b : Bool). b && is_head_at t (64 * word + k)) (marks-below end e k l))

  -- without those before `first`
  pub word-within : {m c passed heads : ℕ} (first end : ℕ) → c ≡ min 64 (first - 64 * word) → passed ≡ mask_of 64 (λ k. ltb k c) → heads ≡ mask_of 64 (λ k. ltb (64 * word + k) end && is_head_at t (64 * word + k))
      → m ≡ mask_of 64 (λ k. bit heads k && not (bit passed k)) → m ≡ mask_of 64 (λ k. is_head_of first end t (64 * word + k))
  word-within {m} {c} {passed} {heads} first end e p h f = f ∙ mask_same 64 (λ k. bit heads k && not (bit passed k)) (λ k. is_head_of first end t (64 * word + k)) at
    where
      behind : (k : ℕ) → not (ltb k first) ≡ leb first k
      behind k = test (ltb k first)
          (λ q. ap not q ∙ sym (lt-leb first k (ltb-true k first q)))
          (λ q. ap not q ∙ sym (le-leb first k (ltb-false k first q)))

      at : (k : ℕ) → k < 64 → (bit heads k && not (bit passed k)) ≡ is_head_of first end t (64 * word + k)
      at k l =
          ap₂ (λ (a b : Bool). a && not b)
          (ap (λ (x : ℕ). bit x k) h ∙ bit_mask 64 (λ k. ltb (64 * word + k) end && is_head_at t (64 * word + k)) k l)
          (ap (λ (x : ℕ). bit x k) p ∙ bit_mask 64 (λ k. ltb k c) k l ∙ marks-below first e k l)
          ∙ ap (λ (b : Bool). (ltb (64 * word + k) end && is_head_at t (64 * word + k)) && b) (behind (64 * word + k))
          ∙ and_comm (ltb (64 * word + k) end && is_head_at t (64 * word + k)) (leb first (64 * word + k))
          ∙ sym (and_assoc (leb first (64 * word + k)) (ltb (64 * word + k) end) (is_head_at t (64 * word + k)))

-- ---- which heads are open

-- before the first turn all are left
pub reaching_begin : (f : ℕ → Bool) (marked : ℕ) → mask_of 64 (keeping f 0 marked) ≡ mask_of 64 (λ k. bit marked k && f k)
reaching_begin f marked = mask_same 64 (keeping f 0 marked) (λ k. bit marked k && f k) (λ k _. ap (λ (b : Bool). b || (bit marked k && f k)) (bit-none k))

-- a word of marks has the parts of its own
pub word_below : {end : ℕ} (marks : List ℕ) → MarkedBelow end marks → (word k room : ℕ) → end ≤ room → k < 64 → Is (bit (get_or marks word 0) k) → 64 * word + k < room
word_below {end} marks low word k room r l b =
    let p : (64 * word + k) / 64 ≡ word = omega arith in
    let q : (64 * word + k) % 64 ≡ k = omega arith in
    let h = low (64 * word + k) (ap₂ (λ (x y : ℕ). bit (get_or marks x 0) y) p q ∙ b) in
    omega arith

pub marked-below : {first end : ℕ} {marks t : List ℕ} → Marked first end marks t → MarkedBelow end marks
marked-below {first} {end} {marks} {t} M k m = window_below first end (is_head_at t k) (sym (M.right k) ∙ m)

pub open_below : {first end : ℕ} {marks t : List ℕ} {c : ℕ} → Open first end marks t c → MarkedBelow end marks
open_below {first} {end} {marks} {t} O k m = window_below first end (is_head_at t k) (O.heads k m)

-- the words of all marks of heads that reach a group
pub open_made : {first end : ℕ} (marks new t : List ℕ) (c : ℕ) → end ≤ most_parts → Marked first end marks t → length new ≡ mark_words → ((w : ℕ) → w < mark_words → get_or new w 0 ≡ mask_of 64 (λ k. bit (get_or marks w 0) k && reaches (words_at t (64 * w + k)) (words_at t c))) → Open first end new t c
open_made {first} {end} marks new t c few M long words = record {
  long = long;
  heads = λ k m. and_l (is_head_of first end t k) (reaches (words_at t k) (words_at t c)) (sym (at k) ∙ m);
  far = λ k d a m. sym (ap (λ (b : Bool). b && reaches (words_at t k) (words_at t c)) a) ∙ sym (at k) ∙ m;
}
  where
    there : (k : ℕ) → k < most_parts → is_marked new k ≡ (is_head_of first end t k && reaches (words_at t k) (words_at t c))
    there k h =
        let z : 64 * (k / 64) + k % 64 ≡ k = omega arith in
        ap (λ (x : ℕ). bit x (k % 64)) (words (k / 64) (omega arith)) ∙ bit_mask 64 (λ x. bit (get_or marks (k / 64) 0) x && reaches (words_at t (64 * (k / 64) + x)) (words_at t c)) (k % 64) (omega arith)
        ∙ ap₂ (λ (b : Bool) (x : ℕ). b && reaches (words_at t x) (words_at t c)) (M.right k) z

    past : (k : ℕ) → most_parts ≤ k → is_marked new k ≡ (is_head_of first end t k && reaches (words_at t k) (words_at t c))
    past k h =
        let none = past_window first end few t k h in
        past-marks first end few t new k long h ∙ sym (ap (λ (b : Bool). b && reaches (words_at t k) (words_at t c)) none ∙ sym none)

    at : (k : ℕ) → is_marked new k ≡ (is_head_of first end t k && reaches (words_at t k) (words_at t c))
    at k = test (ltb k most_parts) (λ e. there k (ltb-true k most_parts e)) (λ e. past k (ltb-false k most_parts e))
