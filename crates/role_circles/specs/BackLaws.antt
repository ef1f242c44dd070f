-- The laws of the search's loops.
-- Assumes nothing.
use Prim.Native.Nat.{ℕ, zero, suc, ◌+◌, ◌-◌, ◌≤◌, ◌<◌}
use Rattle.std.proofs.Common.{eqb-true, eq-eqb, ne_eqb, length-set, take-append-drop, take-suc-set, drop-set-lt, drop-drop, sym, ap₂, ◌∙◌, subst}
use Rattle.std.proofs.lemmas.Bool.{eqb-false}
use Rattle.std.specs.Prelude.{eqb, ltb, length, get_or, set, take, drop, Bool, true, false, ◌&&◌, not, ◌≡◌, refl}
use mathlib.Core.List.{List, [], ◌∷◌, ◌++◌, append_assoc, append-nil}
use Rattle.std.proofs.Math.Path.{ap}
use Rattle.std.proofs.Math.Decide.{dec_lt}
use native.Mathlib.Omega.{arith}
use Rattle.policy.specs.Circles.{circle_in}
use Rattle.policy.specs.CircleSearch.{leads_back, followers, way_back, circle_at}
use Rattle.policy.proofs.CircleSearchLaws.{search_found, search_none, followers-some, followers-word, way_next}
use Rattle.role_circles.specs.BackWords.{line_in, next_in, back_word, IsShortest}
use Rattle.role_record.specs.Record.{table_of}
use Rattle.role_record.specs.RecordLaws.{table-length, table_get}
use Rattle.sets.specs.Lowest.{lowest_from}
use Rattle.sets.specs.LowestLaws.{lowest_from-misses, lowest_from-hits, lowest_from-most}
use Rattle.sets.specs.MaskLaws.{mask_same}
use Rattle.sets.specs.Sets.{bit, mask_of}
use Rattle.sets.specs.SetLaws.{bit_mask}
use Rattle.sets.specs.Tests.{Is}
use Rattle.sets.specs.TestLaws.{never, test}
use Rattle.sets.specs.LoopLaws.{table-unique}

-- ---- words of roles that lead back

-- from the roles that lead back through m roles those that do through one more
pub back_on : (lines : List ℕ) (k a m w v : ℕ) → k ≤ 32 → w ≡ back_word lines k a m → v ≡ mask_of k (λ x. not (eqb (next_in lines a w x) 0)) → v ≡ back_word lines k a (m + 1)
unfolding back_word next_in
back_on lines k a m w v l e q =
    let s : suc m ≡ m + 1 = omega arith in
    q
    ∙ mask_same k (λ x. not (eqb (next_in lines a w x) 0)) (leads_back (line_in lines) k a (suc m))
    (λ x i. ap (λ (n : ℕ). not (eqb n 0)) (followers-word (line_in lines) k a m x (get_or lines x 0) w (next_in lines a w x) (omega arith) (λ y h. refl) e refl) ∙ sym (followers-some (line_in lines) k a m x))
    ∙ ap (λ (n : ℕ). mask_of k (leads_back (line_in lines) k a n)) s

pub back-unique : (lines : List ℕ) (k a n i : ℕ) (out : List ℕ) → length out ≡ n → i ≡ n → ((j : ℕ) → j < i → get_or out j 0 ≡ back_word lines k a j) → out ≡ table_of n (back_word lines k a)
unfolding table_of
back-unique lines k a n i out l e h = table-unique n out (back_word lines k a) l (λ j d. h j (omega arith))

-- ---- the lowest number that passes, as a loop finds it

pub lowest-found : (f : ℕ → Bool) (i n : ℕ) → i < n → ((j : ℕ) → j < i → f j ≡ false) → f i ≡ true → i ≡ lowest_from f 0 n
lowest-found f i n l h e =
    let p = lowest_from f 0 n in
    elim (dec_lt p i) [
      | yes d ↦ never (lowest_from-hits f 0 n (omega arith)) (h p d)
      | no d ↦ elim (dec_lt i p) [ yes c ↦ never e (lowest_from-misses f 0 n i (omega arith) c) | no c ↦ omega arith ]
    ]

pub lowest-end : (f : ℕ → Bool) (i n : ℕ) → i ≡ n → ((j : ℕ) → j < i → f j ≡ false) → n ≡ lowest_from f 0 n
lowest-end f i n e h =
    let p = lowest_from f 0 n in
    let m = lowest_from-most f 0 n in
    elim (dec_lt p n) [ yes d ↦ never (lowest_from-hits f 0 n (omega arith)) (h p (omega arith)) | no d ↦ omega arith ]

-- ---- the search: each role is tried as the lowest

-- of the roles below a, none leads back to itself through fewer than m roles; with m the role `low` does, and none below it
pub record Sofar (lines : List ℕ) (k a low m : ℕ) : Type 0 where
  pub within : m ≤ k
  pub under : m < k → low < a
  pub leads : m < k → Is (leads_back (line_in lines) k low m low)
  pub fewer : (j b : ℕ) → j < m → b < a → leads_back (line_in lines) k b j b ≡ false
  pub lower : (b : ℕ) → b < low → leads_back (line_in lines) k b m b ≡ false

pub sofar_none : (lines : List ℕ) (k : ℕ) → Sofar lines k 0 0 k
sofar_none lines k = record {
  within = omega arith;
  under = λ h. absurd (omega arith);
  leads = λ h. absurd (omega arith);
  fewer = λ j b h d. absurd (omega arith);
  lower = λ b h. absurd (omega arith);
}

module _ (lines : List ℕ) (k a low more : ℕ) (few : k ≤ 32) (l : a < k) (t : Sofar lines k a low more)
    (back : List ℕ) (words : back ≡ table_of 32 (back_word lines k a)) (m : ℕ) (e : m ≡ lowest_from (λ j. bit (get_or back j 0) a) 0 more) where
  word : (j : ℕ) → j < 32 → bit (get_or back j 0) a ≡ leads_back (line_in lines) k a j a
  unfolding back_word
  word j h =
      ap (λ (s : List ℕ). bit (get_or s j 0) a) words
      ∙ ap (λ (w : ℕ). bit w a) (table_get 32 (back_word lines k a) j h)
      ∙ bit_mask k (leads_back (line_in lines) k a j) a l

  most : m ≤ more
  most = let d = lowest_from-most (λ j. bit (get_or back j 0) a) 0 more in omega arith

  misses : (j : ℕ) → j < m → leads_back (line_in lines) k a j a ≡ false
  misses j h = let d = most in let w = t.within in sym (word j (omega arith)) ∙ lowest_from-misses (λ j. bit (get_or back j 0) a) 0 more j (omega arith) (omega arith)

  hits : m < more → Is (leads_back (line_in lines) k a m a)
  hits h =
      let w = t.within in
      sym (word m (omega arith)) ∙ ap (λ (j : ℕ). bit (get_or back j 0) a) e ∙ lowest_from-hits (λ j. bit (get_or back j 0) a) 0 more (omega arith)

  up_to : (n : ℕ) → n ≤ more → n ≤ m → (j b : ℕ) → j < n → b < a + 1 → leads_back (line_in lines) k b j b ≡ false
  up_to n p q j b h d = test (eqb b a)
      (λ z. ap (λ (x : ℕ). leads_back (line_in lines) k x j x) (eqb-true b a z) ∙ misses j (omega arith))
      (λ z. let y = eqb-false b a z in t.fewer j b (omega arith) (omega arith))

  -- a shorter circle is found
  pub sofar_better : m < more → Sofar lines k (a + 1) a m
  sofar_better h =
      let w = t.within in
      record {
        within = omega arith;
        under = λ d. omega arith;
        leads = λ d. hits h;
        fewer = up_to m most (omega arith);
        lower = λ b d. t.fewer m b h d;
      }

  -- or none
  pub sofar_same : more ≤ m → Sofar lines k (a + 1) low more
  sofar_same h = record {
    within = t.within;
    under = λ d. let u = t.under d in omega arith;
    leads = t.leads;
    fewer = up_to more (omega arith) h;
    lower = t.lower;
  }

pub sofar_end : (lines : List ℕ) (k a low m : ℕ) → a ≡ k → Sofar lines k a low m → IsShortest lines k low m
sofar_end lines k a low m e t = record {
  found = λ h. let u = t.under h in search_found (line_in lines) k low m (omega arith) (t.leads h) (λ j b i d. t.fewer j b i (omega arith)) t.lower;
  lowest = λ h. let u = t.under h in omega arith;
  leads = t.leads;
  none = λ h. search_none (line_in lines) k (λ j b i d. t.fewer j b (omega arith) (omega arith));
}

-- ---- the circle as it is written

-- i roles behind the lowest are written, x is the last; what is left are the least next roles behind it
pub record Listing (lines : List ℕ) (k low more : ℕ) (out₀ out : List ℕ) (i x : ℕ) : Type 0 where
  pub within : i ≤ more
  pub role : x < k
  pub leads : Is (leads_back (line_in lines) k low (more - i) x)
  pub front : circle_at (line_in lines) k low more ≡ take (i + 1) out ++ way_back (line_in lines) k low (more - i) x
  pub behind : drop (i + 1) out ≡ drop (i + 1) out₀
  pub long : length out ≡ length out₀

-- the lowest role is
pub list_begin : (lines : List ℕ) (k low more : ℕ) (out : List ℕ) → low < k → more < length out → Is (leads_back (line_in lines) k low more low)
    → Listing lines k low more (set out 0 low) (set out 0 low) 0 low
list_begin lines k low more out l r h =
    let e : more ≡ more - 0 = omega arith in
    record {
      within = omega arith;
      role = l;
      leads = subst (λ (n : ℕ). Is (leads_back (line_in lines) k low n low)) e h;
      front = ap (λ (n : ℕ). low ∷ way_back (line_in lines) k low n low) e ∙ ap (λ (s : List ℕ). s ++ way_back (line_in lines) k low (more - 0) low) (sym (take-suc-set out 0 low (omega arith)));
      behind = refl;
      long = refl;
    }

-- one more is
module _ (lines : List ℕ) (k low more : ℕ) (few : k ≤ 32) (out₀ out : List ℕ) (i x : ℕ) (l : i < more) (room : more < length out₀) (t : Listing lines k low more out₀ out i x)
    (w y : ℕ) (e : w ≡ back_word lines k low (more - 1 - i)) (q : y ≡ lowest_from (bit (next_in lines low w x)) 0 64) where
  abbrev left : ℕ
  left = more - 1 - i

  next-role : (way_back (line_in lines) k low (suc left) x ≡ y ∷ way_back (line_in lines) k low left y) × (y < k) × Is (leads_back (line_in lines) k low left y)
  unfolding back_word next_in
  next-role =
      let s : more - i ≡ suc (more - 1 - i) = omega arith in
      way_next (line_in lines) k low left x y (omega arith) (subst (λ (n : ℕ). Is (leads_back (line_in lines) k low n x)) s t.leads)
      (q ∙ ap (λ (n : ℕ). lowest_from (bit n) 0 64) (followers-word (line_in lines) k low left x (get_or lines x 0) w (next_in lines low w x) (omega arith) (λ z h. refl) e refl))

  pub list_role : y < k
  list_role = next-role.1

  pub list_on : Listing lines k low more out₀ (set out (i + 1) y) (i + 1) y
  list_on =
      let s : more - i ≡ suc (more - 1 - i) = omega arith in
      let d : more - 1 - i ≡ more - (i + 1) = omega arith in
      let n : suc (i + 1) ≡ i + 1 + 1 = omega arith in
      let z = t.long in
      record {
        within = omega arith;
        role = next-role.1;
        leads = subst (λ (n : ℕ). Is (leads_back (line_in lines) k low n y)) d next-role.2;
        front =
            t.front
            ∙ ap (λ (n : ℕ). take (i + 1) out ++ way_back (line_in lines) k low n x) s
            ∙ ap (λ (r : List ℕ). take (i + 1) out ++ r) next-role.0
            ∙ sym (append_assoc (take (i + 1) out) (y ∷ []) (way_back (line_in lines) k low left y))
            ∙ ap₂ (λ (f : List ℕ) (n : ℕ). f ++ way_back (line_in lines) k low n y) (sym (take-suc-set out (i + 1) y (omega arith)) ∙ ap (λ (n : ℕ). take n (set out (i + 1) y)) n) d;
        behind = drop-set-lt (i + 1 + 1) out (i + 1) y (omega arith) ∙ sym (drop-drop 1 (i + 1) out) ∙ ap (drop 1) t.behind ∙ drop-drop 1 (i + 1) out₀;
        long = length-set out (i + 1) y ∙ t.long;
      }

-- all are
pub list_end : (lines : List ℕ) (k low more : ℕ) (out₀ out : List ℕ) (i x : ℕ) → i ≡ more → Listing lines k low more (set out₀ 0 low) out i x → out ≡ circle_at (line_in lines) k low more ++ drop (suc more) out₀
list_end lines k low more out₀ out i x e t =
    let z : more - i ≡ 0 = omega arith in
    let n : i + 1 ≡ suc more = omega arith in
    sym (take-append-drop (i + 1) out)
    ∙ ap₂ (λ (f b : List ℕ). f ++ b) (sym (t.front ∙ ap (λ (n : ℕ). take (i + 1) out ++ way_back (line_in lines) k low n x) z ∙ append-nil (take (i + 1) out))) (t.behind ∙ drop-set-lt (i + 1) out₀ 0 low (omega arith) ∙ ap (λ (n : ℕ). drop n out₀) n)

-- the words of back, one at a time
pub back_at : (lines : List ℕ) (k a : ℕ) (back : List ℕ) (j : ℕ) → back ≡ table_of 32 (back_word lines k a) → j < 32 → get_or back j 0 ≡ back_word lines k a j
back_at lines k a back j e h = ap (λ (s : List ℕ). get_or s j 0) e ∙ table_get 32 (back_word lines k a) j h

-- ---- what a call gave

pub next-so : (lines : List ℕ) (a back x m b r : ℕ) → m ≡ mask_of 64 (λ z. bit (get_or lines x 0) z && bit back z) → b ≡ mask_of 64 (λ z. ltb z (a + 1)) → r ≡ mask_of 64 (λ y. bit m y && not (bit b y))
    → r ≡ next_in lines a back x
unfolding next_in
next-so lines a back x m b r p q e = e ∙ ap₂ (λ (m b : ℕ). mask_of 64 (λ y. bit m y && not (bit b y))) p q

pub next-some : (r n : ℕ) → r ≡ n → (r ≡ 0 → ⊥) → not (eqb n 0) ≡ true
next-some r n e h = ap not (ne_eqb n 0 (λ z. h (e ∙ z)))

pub next-none : (r n : ℕ) → r ≡ n → r ≡ 0 → not (eqb n 0) ≡ false
next-none r n e h = ap not (eq-eqb n 0 (sym e ∙ h))

pub least-so : (r m n : ℕ) → r ≡ lowest_from (bit m) 0 64 → m ≡ n → r ≡ lowest_from (bit n) 0 64
least-so r m n e q = e ∙ ap (λ (x : ℕ). lowest_from (bit x) 0 64) q
