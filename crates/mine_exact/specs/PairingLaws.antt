-- The laws of the comparison of two groups with the covering rule of both: how the search goes on.
-- Assumes nothing.
use Prim.Native.Nat.{ℕ, ◌+◌, ◌≤◌, ◌<◌}
use Rattle.std.proofs.Common.{eqb-true, inl, inr, ◌∙◌, arith}
use Rattle.std.proofs.Math.Dec.{eqb}
use Rattle.std.proofs.Math.Bool.{Bool, false, not, or-false}
use Rattle.std.specs.Prelude.{true, ◌&&◌, ◌||◌, Some, None, ◌⊎◌, ◌≡◌}
use mathlib.Core.List.{List, map}
use Rattle.std.proofs.Math.Path.{refl, sym, ap, ap₂}
use Rattle.files.proofs.CallLaws.{first-none}
use Rattle.files.specs.Calls.{first}
use Rattle.grant_grids.specs.Grid.{triple_list, differ_at, difference_of}
use Rattle.grant_grids.proofs.GridLaws.{UsersPassed, ResourcesPassed, OperationsPassed, user-passed, found}
use Rattle.grant_links.specs.Linked.{row_of}
use Rattle.sets.specs.Sets.{bit, mask_of}
use Rattle.sets.specs.SetLaws.{bit-none, bit_mask}
use Rattle.sets.specs.Tests.{Is, iff, ◌is_in◌, each, up_to}
use Rattle.sets.specs.TestLaws.{and_in, and_l, and_r, or_out, never, iff_in, each-out, map-out, up_to-out, not_in}
use Rattle.mine_theory.specs.Words.Words.{Words, joined}
use Rattle.mine_corners.specs.Pairing.{table_spans, covering, covered, grouped, first_beyond, OthersSame, rows_agree}

-- ---- rows that agree

-- a word that has a member is not empty
word-has : (f : ℕ → Bool) (o : ℕ) (b : Bool) → o < 64 → Is (f o) → Is (eqb (mask_of 64 f) 0 || b) → Is b
word-has f o b l h k = go (or_out (eqb (mask_of 64 f) 0) b k)
  where
    go : Is (eqb (mask_of 64 f) 0) ⊎ Is b → Is b
    go (inl z) = never (bit_mask 64 f o l ∙ h) (ap (λ (m : ℕ). bit m o) (eqb-true (mask_of 64 f) 0 z) ∙ bit-none o)
    go (inr q) = q

by-operation : (p q x y z : Bool) → (Is p → Is q → z ≡ (x || y)) → (Is p → q ≡ false → z ≡ x) → (p ≡ false → Is q → z ≡ y) → ((p || q) && z) ≡ ((p && x) || (q && y))
by-operation true true x y z f g h = f refl refl
by-operation true false x y z f g h = g refl refl ∙ sym (or-false x)
by-operation false true x y z f g h = h refl refl
by-operation false false x y z f g h = refl

module _ (mine theirs c a b : ℕ) where
  -- what the code works out word by word
  pub agree-words : {m v n k : ℕ} → m ≡ mask_of 64 (λ k. bit mine k && bit theirs k) → v ≡ mask_of 64 (λ k. bit a k || bit b k) → n ≡ mask_of 64 (λ k. bit mine k && not (bit theirs k))
      → k ≡ mask_of 64 (λ k. bit theirs k && not (bit mine k)) → (((eqb m 0 || eqb c v) && (eqb n 0 || eqb c a)) && (eqb k 0 || eqb c b)) ≡ rows_agree mine theirs c a b
  unfolding rows_agree
  agree-words p q r s = rw (p, q, r, s) refl

  -- rows that agree as words grant the same
  rows_same : Is (rows_agree mine theirs c a b) → (r o : ℕ) → r < 64 → o < 64
      → (bit (mask_of 64 (λ k. bit mine k || bit theirs k)) o && bit c r) ≡ ((bit mine o && bit a r) || (bit theirs o && bit b r))
  unfolding rows_agree
  rows_same h r o lr lo =
      ap (λ (x : Bool). x && bit c r) (bit_mask 64 (λ k. bit mine k || bit theirs k) o lo)
      ∙ by-operation (bit mine o) (bit theirs o) (bit a r) (bit b r) (bit c r)
      (λ p q. ap (λ (m : ℕ). bit m r) (eqb-true c (mask_of 64 (λ k. bit a k || bit b k)) (word-has (λ k. bit mine k && bit theirs k) o _ lo (and_in p q) (and_l shared mine_only (and_l (shared && mine_only) _ h)))) ∙ bit_mask 64 (λ k. bit a k || bit b k) r lr)
      (λ p q. ap (λ (m : ℕ). bit m r) (eqb-true c a (word-has (λ k. bit mine k && not (bit theirs k)) o _ lo (and_in p (not_in (bit theirs o) q)) (and_r shared mine_only (and_l (shared && mine_only) _ h)))))
      (λ p q. ap (λ (m : ℕ). bit m r) (eqb-true c b (word-has (λ k. bit theirs k && not (bit mine k)) o _ lo (and_in q (not_in (bit mine o) p)) (and_r (shared && mine_only) _ h))))
    where
      shared : Bool
      shared = eqb (mask_of 64 (λ k. bit mine k && bit theirs k)) 0 || eqb c (mask_of 64 (λ k. bit a k || bit b k))

      mine_only : Bool
      mine_only = eqb (mask_of 64 (λ k. bit mine k && not (bit theirs k))) 0 || eqb c a

-- ---- the search

-- the words that the code has at a user: the operations and the atoms of the covering rule, its row c, and the rows a and b of the groups
pub record RowsAt (links : List ℕ) (W X : Words) (who what u all atoms c a b : ℕ) : Type 0 where
  pub operations : all ≡ mask_of 64 (λ k. bit W.ops k || bit X.ops k)
  pub links_of_both : atoms ≡ mask_of 64 (λ k. bit W.atoms k && bit X.atoms k)
  pub of-cover : c ≡ row_of links atoms who what u
  pub of-first : a ≡ row_of links W.atoms W.users W.resources u
  pub of-second : b ≡ row_of links X.atoms X.users X.resources u

module _ (links : List ℕ) (W X : Words) (who what : ℕ) where
  -- the covering rule and the groups at a triple, from the rows
  cover-row : (u r o : ℕ) {all atoms c a b : ℕ} → RowsAt links W X who what u all atoms c a b → (bit all o && bit c r) ≡ covered links W X who what u r o
  unfolding table_spans covering joined
  cover-row u r o {atoms = atoms} w = ap₂ (λ (x y : ℕ). bit x o && bit y r) w.operations (w.of-cover ∙ ap (λ (m : ℕ). row_of links m who what u) w.links_of_both)

  group_rows : (u r o : ℕ) {all atoms c a b : ℕ} → RowsAt links W X who what u all atoms c a b → ((bit W.ops o && bit a r) || (bit X.ops o && bit b r)) ≡ grouped links W X u r o
  unfolding table_spans
  group_rows u r o w = ap₂ (λ (x y : ℕ). (bit W.ops o && bit x r) || (bit X.ops o && bit y r)) w.of-first w.of-second

  -- the test of a triple
  pub differs_at : (u r o : ℕ) {d : Bool} {all atoms c a b : ℕ} → RowsAt links W X who what u all atoms c a b
      → d ≡ not (iff (bit all o && bit c r) ((bit W.ops o && bit a r) || (bit X.ops o && bit b r))) → d ≡ not (iff (covered links W X who what u r o) (grouped links W X u r o))
  differs_at u r o w e = e ∙ ap₂ (λ (x y : Bool). not (iff x y)) (cover-row u r o w) (group_rows u r o w)

  -- a user with the same triples on both sides is passed by
  user-same : (rs os n : ℕ) → rs ≤ 64 → os ≤ 64 → ((r o : ℕ) → r < 64 → o < 64 → covered links W X who what n r o ≡ grouped links W X n r o)
      → UsersPassed (covered links W X who what) (grouped links W X) rs os n → UsersPassed (covered links W X who what) (grouped links W X) rs os (n + 1)
  unfolding differ_at
  user-same rs os n lr lo s h =
      user-passed (covered links W X who what) (grouped links W X) rs os n rs h
      (first-none (differ_at (covered links W X who what) (grouped links W X)) (each (λ r. map (λ o. (n, r, o)) (up_to os)) (up_to rs)) alike) refl
    where
      alike : (t : ℕ × ℕ × ℕ) → t is_in each (λ r. map (λ o. (n, r, o)) (up_to os)) (up_to rs) → differ_at (covered links W X who what) (grouped links W X) t ≡ false
      alike t m =
          let p = each-out (λ r. map (λ o. (n, r, o)) (up_to os)) (up_to rs) m in
          let k = map-out (λ o. (n, p.0, o)) (up_to os) p.2 in
          let br = up_to-out rs p.1 in
          let bo = up_to-out os k.1 in
          ap (differ_at (covered links W X who what) (grouped links W X)) k.2
          ∙ ap not (iff_in (covered links W X who what n p.0 k.0) (grouped links W X n p.0 k.0) (s p.0 k.0 (omega arith) (omega arith)))

  -- so is one who is not among those looked at
  pub user-skipped : (among us rs os n : ℕ) → rs ≤ 64 → os ≤ 64 → n < us → OthersSame links W X among who what us → bit among n ≡ false
      → UsersPassed (covered links W X who what) (grouped links W X) rs os n → UsersPassed (covered links W X who what) (grouped links W X) rs os (n + 1)
  unfolding OthersSame
  user-skipped among us rs os n lr lo l s e h = user-same rs os n lr lo (s n l e) h

  -- and one whose rows agree
  pub user_agrees : (rs os n : ℕ) {s : Bool} {all atoms c a b : ℕ} → rs ≤ 64 → os ≤ 64 → RowsAt links W X who what n all atoms c a b
      → UsersPassed (covered links W X who what) (grouped links W X) rs os n → s ≡ rows_agree W.ops X.ops c a b → s ≡ true
      → UsersPassed (covered links W X who what) (grouped links W X) rs os (n + 1)
  user_agrees rs os n {c = c} {a = a} {b = b} lr lo w h q e = user-same rs os n lr lo (λ r o kr ko.
      sym (cover-row n r o w) ∙ ap (λ (m : ℕ). bit m o && bit c r) w.operations
      ∙ rows_same W.ops X.ops c a b (sym q ∙ e) r o kr ko ∙ group_rows n r o w)
      h

  -- the search is left at a difference
  pub beyond-at : (us rs os u r o : ℕ) {d : Bool} → u < us → r < rs → o < os → UsersPassed (covered links W X who what) (grouped links W X) rs os u
      → ResourcesPassed (covered links W X who what) (grouped links W X) os u r → OperationsPassed (covered links W X who what) (grouped links W X) u r o
      → d ≡ not (iff (covered links W X who what u r o) (grouped links W X u r o)) → d ≡ true → Some (u, r, o) ≡ difference_of (first_beyond links W X who what us rs os)
  unfolding first_beyond difference_of
  beyond-at us rs os u r o lu lr lo hu hr ho q e = sym (ap difference_of (found (covered links W X who what) (grouped links W X) us rs os u r o lu lr lo hu hr ho (sym q ∙ e)))

  -- it ends without one
  pub beyond-none : (us rs os u : ℕ) → UsersPassed (covered links W X who what) (grouped links W X) rs os u → u ≡ us → None ≡ difference_of (first_beyond links W X who what us rs os)
  unfolding first_beyond difference_of
  beyond-none us rs os u h e = sym (ap difference_of (ap (λ (x : ℕ). first (differ_at (covered links W X who what) (grouped links W X)) (triple_list x rs os)) (sym e) ∙ h))
