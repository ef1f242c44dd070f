-- The order in which a written rule's conditions stand, and that each says something: what a writer needs.
-- Assumes nothing.
use Rattle.std.specs.Prelude.{ℕ, zero, suc, ◌+◌, ◌*◌, ◌≤◌, ◌<◌, ltb, Bool, true, false, cond, ◌⊎◌, ◌≡◌}
use mathlib.Core.List.Memᴰ
use mathlib.Core.List.{List, [], ◌∷◌, ◌++◌, map}
use Rattle.std.proofs.Common.{inl, inr, sym}
use Rattle.std.proofs.Math.Path.{refl, ap, subst}
use native.Mathlib.Omega.{arith}
use Rattle.policy.proofs.CoverLaws.{conjuncts-out, atom_conds-out, cover_cases}
use Rattle.policy.specs.Covering.{all_know, values_of, stands_in, everywhere, conjuncts, atom_conds, cover, level_of}
use Rattle.policy.specs.Rules.{own, Side, Which, by, Setting, Cond, Block, meets, attrs_of, own_at, user, resource, conjunct, atom}
use Rattle.policy.proofs.SideLaws.{admits-out, values-rising}
use Rattle.policy.proofs.StrikeLaws.{strike-within}
use Rattle.policy.specs.Thinning.{trim, strike, trim_cond, grants_just, thinned, written}
use Rattle.sets.specs.Sorted.{Rising, Ascending, none_left, and-then}
use Rattle.sets.specs.SortedLaws.{Before, keep-rising, append-rising, each-rising, only-rising, from-rising}
use Rattle.sets.specs.Tests.{Is, ◌is_in◌, each, only, from, up_to}
use Rattle.sets.specs.TestLaws.{each-out, only_out, from_out, up_to-out, map-out}

-- the conditions of a side stand at 0 or 256 and further
pub side-base : (w : Which) → by w 0 256 ≤ 256
side-base user = omega arith
side-base resource = omega arith

-- ---- ascending lists

module _ {A : Type 0} (key : A → ℕ) where
  -- striking keeps the order
  pub strike_asc : (ok : List A → Bool) (pre : List A) {t : List A} → Ascending key t → Ascending key (strike ok pre t)
  strike_asc ok pre none_left = none_left
  strike_asc ok pre (and-then {x = c} {xs = t} e p) = go (ok (pre ++ t)) (strike_asc ok pre p) (strike_asc ok (pre ++ (c ∷ [])) p)
    where
      go : (b : Bool) → Ascending key (strike ok pre t) → Ascending key (strike ok (pre ++ (c ∷ [])) t) → Ascending key (cond b (strike ok pre t) (c ∷ strike ok (pre ++ (c ∷ [])) t))
      go true x y = x
      go false x y = and-then (λ z m. e z (strike-within ok (pre ++ (c ∷ [])) t z m)) y

  pub map_asc : (f : A → A) → ((x : A) → key (f x) ≡ key x) → {l : List A} → Ascending key l → Ascending key (map f l)
  map_asc f k none_left = none_left
  map_asc f k (and-then {x = g} {xs = t} e p) = and-then {x = f g} (λ y m. let s = map-out f t m in let a = e s.0 s.1 in let b = k g in let c = k s.0 in rw s.2 (omega arith)) (map_asc f k p)

-- ---- the order of conditions: users' conjuncts, resources', atoms, each by attribute
unfoldable pub key : Cond → ℕ
key (conjunct w a vs) = by w 0 256 + a
key (atom a b) = 512 + (256 * a + b)

-- a side's attributes are numbered below its 255
abbrev pub Numbered : Side → Type 0
Numbered S = S.attrs ≤ own

pub attrs-rising : (S : Side) → Numbered S → (b : Bool) → Rising ◌<◌ (attrs_of S b)
unfolding attrs_of
attrs-rising S N b = go 0 S.attrs (omega arith) b
  where
    go : (k n : ℕ) → k + n ≤ own → (b : Bool) → Rising ◌<◌ (from k n ++ only b own)
    go k zero h true = and-then (λ y m. absurd (Memᴰ.not-nil m)) none_left
    go k zero h false = none_left
    go k (suc n) h b = and-then {x = k} (λ y m. above y (Memᴰ.append_cases (from (suc k) n) m)) (go (suc k) n (omega arith) b)
      where
        above : (y : ℕ) → (y is_in from (suc k) n) ⊎ (y is_in only b own) → k < y
        above y (inl m) = let t = from_out (suc k) n m in omega arith
        above y (inr m) = let t = only_out b m in omega (arith, t.1)

pub attrs-below : (S : Side) → Numbered S → (b : Bool) {a : ℕ} → a is_in attrs_of S b → a < 256
unfolding attrs_of
attrs-below S N b {a} m = go (Memᴰ.append_cases (up_to S.attrs) m)
  where
    go : (a is_in up_to S.attrs) ⊎ (a is_in only b own) → a < 256
    go (inl k) = let t = up_to-out S.attrs k in omega arith
    go (inr k) = let t = only_out b k in omega (arith, t.1)

module _ (P : Setting) (N : (w : Which) → Numbered (P.side w)) where
  conjuncts_asc : (B : Block) (l : ℕ) (w : Which) → Ascending key (conjuncts P B l w)
  unfolding conjuncts key
  conjuncts_asc B l w =
      each-rising (λ a. only (all_know (P.side w) (stands_in P B w) a) (conjunct w a (values_of (P.side w) (stands_in P B w) a)))
      (λ a. only-rising (all_know (P.side w) (stands_in P B w) a) (conjunct w a (values_of (P.side w) (stands_in P B w) a)))
      (λ a b ma mb h x y mx my.
      let e = ap key (only_out (all_know (P.side w) (stands_in P B w) a) mx).1 in
      let d = ap key (only_out (all_know (P.side w) (stands_in P B w) b) my).1 in
      omega arith)
      (attrs-rising (P.side w) (N w) (own_at w l))

  atoms_asc : (B : Block) → Ascending key (atom_conds P B)
  unfolding atom_conds key
  atoms_asc B =
      each-rising (λ a. each (λ b. only (everywhere P B (atom a b)) (atom a b)) (up_to (P.side resource).attrs))
      (λ a. each-rising (λ b. only (everywhere P B (atom a b)) (atom a b))
      (λ b. only-rising (everywhere P B (atom a b)) (atom a b))
      (λ b c ma mb h x y mx my.
      let e = ap key (only_out (everywhere P B (atom a b)) mx).1 in
      let d = ap key (only_out (everywhere P B (atom a c)) my).1 in
      omega arith)
      (from-rising 0 (P.side resource).attrs))
      (λ a c ma mb h x y mx my.
      let s = each-out (λ b. only (everywhere P B (atom a b)) (atom a b)) (up_to (P.side resource).attrs) mx in
      let t = each-out (λ b. only (everywhere P B (atom c b)) (atom c b)) (up_to (P.side resource).attrs) my in
      let e = ap key (only_out (everywhere P B (atom a s.0)) s.2).1 in
      let d = ap key (only_out (everywhere P B (atom c t.0)) t.2).1 in
      let b = up_to-out (P.side resource).attrs s.1 in
      let n = N resource in
      omega arith)
      (from-rising 0 (P.side user).attrs)

  pub cover_asc : (B : Block) (l : ℕ) → Ascending key (cover P B l).conds
  unfolding cover key
  cover_asc B l =
      append-rising
      (append-rising (conjuncts_asc B l user) (conjuncts_asc B l resource) λ x y mx my.
      let s = conjuncts-out P B l user mx in
      let t = conjuncts-out P B l resource my in
      let a = attrs-below (P.side user) (N user) (own_at user l) s.1 in
      let p = ap key s.3 in
      let q = ap key t.3 in
      omega arith)
      (atoms_asc B) λ x y mx my. last x y (Memᴰ.append_cases (conjuncts P B l user) mx) my
    where
      before : (w : Which) (x y : Cond) → x is_in conjuncts P B l w → y is_in atom_conds P B → key x < key y
      before w x y m k =
          let s = conjuncts-out P B l w m in
          let t = atom_conds-out P B k in
          let a = attrs-below (P.side w) (N w) (own_at w l) s.1 in
          let p = ap key s.3 in
          let q = ap key t.5 in
          let b = side-base w in
          omega arith

      last : (x y : Cond) → (x is_in conjuncts P B l user) ⊎ (x is_in conjuncts P B l resource) → y is_in atom_conds P B → key x < key y
      last x y (inl m) k = before user x y m k
      last x y (inr m) k = before resource x y m k

  key-trim : (c : Cond) → key (trim_cond P c) ≡ key c
  unfolding key trim_cond
  key-trim (conjunct w a vs) = refl
  key-trim (atom a b) = refl

  -- a written rule's conditions ascend strictly
  pub written_asc : (B : Block) → Ascending key (written P B).conds
  unfolding written thinned
  written_asc B = strike_asc key (grants_just P B (cover P B (level_of P B)).ops) [] (map_asc key (trim_cond P) key-trim (cover_asc B (level_of P B)))

-- the values of a conjunct ascend strictly; of an atom there is nothing to say
abbrev pub Ordinary : Cond → Type 0
Ordinary (conjunct w a vs) = Rising (Before ltb) vs
Ordinary (atom a b) = Unit {0}

module _ (P : Setting) where
  trimmed : (c : Cond) → Ordinary c → Ordinary (trim_cond P c)
  unfolding trim_cond trim
  trimmed (conjunct user a vs) h = keep-rising _ h
  trimmed (conjunct resource a vs) h = h
  trimmed (atom a b) h = tt

  cover-values : (B : Block) (l : ℕ) (c : Cond) → c is_in (cover P B l).conds → Ordinary c
  cover-values B l c m = go (cover_cases P B l m)
    where
      go : ((w : Which) × (c is_in conjuncts P B l w)) ⊎ (c is_in atom_conds P B) → Ordinary c
      go (inl k) = let t = conjuncts-out P B l k.0 k.1 in subst Ordinary (sym t.3) (values-rising (P.side k.0) (stands_in P B k.0) t.0)
      go (inr k) = let t = atom_conds-out P B k in subst Ordinary (sym t.5) tt

  -- the values of a written conjunct ascend strictly
  pub written-values : (B : Block) (c : Cond) → c is_in (written P B).conds → Ordinary c
  unfolding written thinned
  written-values B c m =
      let t = map-out (trim_cond P) (cover P B (level_of P B)).conds (strike-within (grants_just P B (cover P B (level_of P B)).ops) [] (map (trim_cond P) (cover P B (level_of P B)).conds) c m) in
      subst Ordinary (sym t.2) (trimmed t.0 (cover-values B (level_of P B) t.0 t.1))

-- a conjunct lists a value
abbrev pub Says : Cond → Type 0
Says (conjunct w a vs) = (v : ℕ) × (v is_in vs)
Says (atom a b) = Unit {0}

-- a conjunct that somebody meets lists a value
pub met_says : (S : Side) (a : ℕ) (vs : List ℕ) (w : ℕ) → Is (meets S a vs w) → (v : ℕ) × (v is_in vs)
unfolding meets
met_says S a vs w h = let t = admits-out (S.below a) vs (S.value a w) h in (t.2, t.3)
