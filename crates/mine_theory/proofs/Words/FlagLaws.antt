-- What the flags of a set's words say of its covering rule and of its written rule.
-- Assumes nothing.
use Prim.Native.Nat.{ℕ, zero, suc, ◌+◌, ◌*◌, ◌/◌, ◌%◌, ◌≤◌, ◌<◌, ◌-◌}
use Rattle.std.proofs.Common.{eqb-true, eq-eqb, lt-ltb, le-ltb, inl, inr, ◌∙◌, add-one}
use Rattle.std.specs.Prelude.{eqb, ltb, Bool, ◌&&◌, not, ◌⊎◌, ◌≡◌}
use Rattle.std.proofs.Math.Bool.{true, false, cond, and_assoc, and_comm, and-true}
use Rattle.std.proofs.lemmas.Bool.{false≢true}
use mathlib.Core.List.Memᴰ
use mathlib.Core.List.{List, [], ◌∷◌, ◌++◌, append_assoc, append-nil, map}
use Rattle.std.proofs.Math.Path.{refl, sym, ap, ap₂}
use Rattle.std.proofs.Math.Nat.{add-zero, zero-add}
use native.Mathlib.Omega.{arith}
use Rattle.policy.specs.Covering.{all_know, values_of, stands_in, everywhere, conjuncts, atom_conds, cover, fits, level_of}
use Rattle.policy.proofs.RuleLaws.{Lawful}
use Rattle.policy.specs.Rules.{own, Side, Which, by, Setting, Cond, Block, attrs_of, own_at, holds, grants, same_block, user, resource, conjunct, atom}
use Rattle.policy.proofs.SideLaws.{attribute_cases, declared_in, own_in}
use Rattle.policy.proofs.ThinLaws.{holds-trim}
use Rattle.policy.specs.Thinning.{strike, trim_cond, grants_just, thinned, written}
use Rattle.policy.proofs.WrittenLaws.{written-ops}
use Rattle.sets.specs.ListLaws.{up_to-more, all_ext, each_ext, each_append, each-each, each_none, each_fewer, sum-append, from_split}
use Rattle.sets.specs.Sets.{bit, mask_of}
use Rattle.sets.specs.SetLaws.{bit_mask}
use Rattle.sets.specs.Tests.{Is, imp, ◌is_in◌, keep, each, only, from, up_to, elem, sum}
use Rattle.sets.specs.TestLaws.{test, fails, same, from_out, up_to-out, elem_in, elem_out}
use Rattle.mine_theory.specs.Words.Flags.{cond_at, has_at, holds_at, places_grant, thinned_at, thinned_to, kept_places}
use Rattle.mine_theory.proofs.Words.WordLaws.{all-chosen, known_same, values_same, meets-met, member-bit, atom-bit, same_tests, spans-own}
use Rattle.mine_theory.specs.Words.Words.{Words, members_of, Roomy, met_by, atom_in, words_of, spans}
use Rattle.role_record.specs.Places.{place_side, place_attribute}

-- ---- a list for each number

module _ {C : Type 0} where
  map-chosen : {A B : Type 0} (g : B → C) (p : A → Bool) (c : A → B) (l : List A) → map g (each (λ a. only (p a) (c a)) l) ≡ each (λ a. only (p a) (g (c a))) l
  map-chosen g p c [] = refl
  map-chosen g p c (x ∷ xs) = go (p x) (map-chosen g p c xs)
    where
      go : (b : Bool) → map g (each (λ a. only (p a) (c a)) xs) ≡ each (λ a. only (p a) (g (c a))) xs
          → map g (only b (c x) ++ each (λ a. only (p a) (c a)) xs) ≡ only b (g (c x)) ++ each (λ a. only (p a) (g (c a))) xs
      go true e = ap (λ (l : List C). g (c x) ∷ l) e
      go false e = e

-- ---- sums

cond_same : (b : Bool) (n : ℕ) → cond b n n ≡ n
cond_same true n = refl
cond_same false n = refl

module _ {A : Type 0} where
  -- over those that pass
  pub sum_if : (p : A → Bool) (f : A → ℕ) (l : List A) → sum (λ a. cond (p a) (f a) 0) l ≡ sum f (keep p l)
  sum_if p f [] = refl
  sum_if p f (x ∷ xs) = go (p x) (sum_if p f xs)
    where
      go : (b : Bool) → sum (λ a. cond (p a) (f a) 0) xs ≡ sum f (keep p xs) → cond b (f x) 0 + sum (λ a. cond (p a) (f a) 0) xs ≡ sum f (cond b (x ∷ keep p xs) (keep p xs))
      go true e = ap (λ (n : ℕ). f x + n) e
      go false e = zero-add (sum (λ a. cond (p a) (f a) 0) xs) ∙ e

  sum-none : (f : A → ℕ) (l : List A) → ((a : A) → a is_in l → f a ≡ 0) → sum f l ≡ 0
  sum-none f [] h = refl
  sum-none f (x ∷ xs) h = ap₂ ◌+◌ (h x (Memᴰ.head refl)) (sum-none f xs (λ a m. h a (Memᴰ.tail m)))

sum-chosen : {A C : Type 0} (f : C → ℕ) (p : A → Bool) (c : A → C) (l : List A) → sum f (each (λ a. only (p a) (c a)) l) ≡ sum (λ a. cond (p a) (f (c a)) 0) l
sum-chosen f p c [] = refl
sum-chosen f p c (x ∷ xs) = sum-append f (only (p x) (c x)) (each (λ a. only (p a) (c a)) xs) ∙ ap₂ ◌+◌ (one (p x)) (sum-chosen f p c xs)
  where
    one : (b : Bool) → sum f (only b (c x)) ≡ cond b (f (c x)) 0
    one true = add-zero (f (c x))
    one false = refl

-- ---- the attributes of a side

module _ (S : Side) (b : Bool) where
  declared : (a : ℕ) → a < S.attrs → Is (elem a (attrs_of S b))
  unfolding attrs_of
  declared a l = elem_in (declared_in S b a l)

  undeclared : (a : ℕ) → S.attrs ≤ a → a < 6 → elem a (attrs_of S b) ≡ false
  undeclared a l k = fails (elem a (attrs_of S b)) λ h. go (attribute_cases S b a (elem_out a (attrs_of S b) h))
    where
      go : (a < S.attrs) ⊎ (Is b × (a ≡ own)) → ⊥
      go (inl m) = omega arith
      go (inr m) = omega (arith, m.1)

  own-listed : S.attrs ≤ 6 → elem own (attrs_of S b) ≡ b
  unfolding attrs_of
  own-listed l = same (elem own (attrs_of S b)) b (λ h. go (attribute_cases S b own (elem_out own (attrs_of S b) h))) (λ h. elem_in (own_in S b h))
    where
      go : (own < S.attrs) ⊎ (Is b × (own ≡ own)) → Is b
      go (inl m) = absurd (omega arith)
      go (inr m) = m.0

-- ---- striking, on flags

-- a set of places without the place k
abbrev less : ℕ → ℕ → ℕ
less m k = mask_of 64 (λ i. bit m i && not (eqb i k))

less_other : (m k i : ℕ) → i < 64 → (i ≡ k → ⊥) → bit (less m k) i ≡ bit m i
less_other m k i l d = bit_mask 64 (λ i. bit m i && not (eqb i k)) i l ∙ ap (λ (b : Bool). bit m i && not b) (fails (eqb i k) (λ e. d (eqb-true i k e))) ∙ and-true (bit m i)

less-own : (m k : ℕ) → k < 64 → bit (less m k) k ≡ false
less-own m k l = bit_mask 64 (λ i. bit m i && not (eqb i k)) k l ∙ ap (λ (b : Bool). bit m k && not b) (eq-eqb k k refl) ∙ and_comm (bit m k) false

module _ {C : Type 0} (c : ℕ → C) where
  -- the conditions at those of some places that a set has
  abbrev listed : ℕ → List ℕ → List C
  listed m l = each (λ i. only (bit m i) (c i)) l

  listed_same : (m n : ℕ) (l : List ℕ) → ((i : ℕ) → i is_in l → bit m i ≡ bit n i) → listed m l ≡ listed n l
  listed_same m n l h = each_ext _ _ l (λ i k. ap (λ (b : Bool). only b (c i)) (h i k))

  listed_more : (m k : ℕ) → listed m (up_to (suc k)) ≡ listed m (up_to k) ++ only (bit m k) (c k)
  listed_more m k =
      ap (listed m) (ap up_to (sym (add-one k)) ∙ up_to-more k)
      ∙ each_append (λ i. only (bit m i) (c i)) (up_to k) (k ∷ [])
      ∙ ap (λ (s : List C). listed m (up_to k) ++ s) (append-nil (only (bit m k) (c k)))

  less-before : (m k : ℕ) → k < 64 → listed (less m k) (up_to k) ≡ listed m (up_to k)
  less-before m k l = listed_same (less m k) m (up_to k) λ i h. let t = up_to-out k h in less_other m k i (omega arith) (λ e. omega arith)

  less-to : (m k : ℕ) → k < 64 → listed (less m k) (up_to (suc k)) ≡ listed m (up_to k)
  less-to m k l = listed_more (less m k) k ∙ ap₂ (λ (s : List C) (b : Bool). s ++ only b (c k)) (less-before m k l) (less-own m k l) ∙ append-nil (listed m (up_to k))

  less-after : (m k j : ℕ) → k + suc j ≤ 64 → listed (less m k) (from (suc k) j) ≡ listed m (from (suc k) j)
  less-after m k j l = listed_same (less m k) m (from (suc k) j) λ i h. let t = from_out (suc k) j h in less_other m k i (omega (arith, t.1)) (λ e. omega (arith, t.0))

  less-all : (m k j : ℕ) → k + suc j ≤ 64 → listed (less m k) (up_to (k + suc j)) ≡ listed m (up_to k) ++ listed m (from (suc k) j)
  less-all m k j l =
      ap (listed (less m k)) (from_split 0 k (suc j) ∙ ap (λ (x : ℕ). up_to k ++ from x (suc j)) (zero-add k))
      ∙ each_append (λ i. only (bit (less m k) i) (c i)) (up_to k) (k ∷ from (suc k) j)
      ∙ ap₂ ◌++◌ (less-before m k (omega arith)) (ap₂ (λ (b : Bool) (s : List C). only b (c k) ++ s) (less-own m k (omega arith)) (less-after m k j l))

module _ {C : Type 0} (ok : List C → Bool) where
  -- what is kept in front, and what striking leaves of the rest
  abbrev struck_to : List C → List C → List C
  struck_to pre rest = pre ++ strike ok pre rest

  -- a condition that is not there, or has to stay
  strike-on : (pre rest : List C) (x : C) (b : Bool) → (b && ok (pre ++ rest)) ≡ false → struck_to pre (only b x ++ rest) ≡ struck_to (pre ++ only b x) rest
  strike-on pre rest x true h = ap (λ (t : Bool). pre ++ cond t (strike ok pre rest) (x ∷ strike ok (pre ++ (x ∷ [])) rest)) h ∙ sym (append_assoc pre (x ∷ []) (strike ok (pre ++ (x ∷ [])) rest))
  strike-on pre rest x false h = sym (ap (λ (s : List C). struck_to s rest) (append-nil pre))

  -- one that goes
  strike_off : (pre rest : List C) (x : C) (b : Bool) → Is (b && ok (pre ++ rest)) → struck_to pre (only b x ++ rest) ≡ struck_to pre rest
  strike_off pre rest x true h = ap (λ (t : Bool). pre ++ cond t (strike ok pre rest) (x ∷ strike ok (pre ++ (x ∷ [])) rest)) h
  strike_off pre rest x false h = absurd (false≢true h)

  -- one turn of striking is one turn on the flags
  strike-turn : (c : ℕ → C) (m k j : ℕ) → k + suc j ≤ 64 → (next : ℕ) → next ≡ cond (bit m k && ok (listed c (less m k) (up_to (k + suc j)))) (less m k) m
      → struck_to (listed c m (up_to k)) (listed c m (from k (suc j))) ≡ struck_to (listed c next (up_to (suc k))) (listed c next (from (suc k) j))
  strike-turn c m k j l next e =
      test (bit m k && ok (listed c (less m k) (up_to (k + suc j))))
      (λ h. strike_off (listed c m (up_to k)) (listed c m (from (suc k) j)) (c k) (bit m k) (sym asked ∙ h)
      ∙ ap₂ struck_to (sym (less-to c m k (omega arith))) (sym (less-after c m k j l))
      ∙ now (less m k) (e ∙ ap (λ (b : Bool). cond b (less m k) m) h))
      (λ h. strike-on (listed c m (up_to k)) (listed c m (from (suc k) j)) (c k) (bit m k) (sym asked ∙ h)
      ∙ ap (λ (s : List C). struck_to s (listed c m (from (suc k) j))) (sym (listed_more c m k))
      ∙ now m (e ∙ ap (λ (b : Bool). cond b (less m k) m) h))
    where
      asked : (bit m k && ok (listed c (less m k) (up_to (k + suc j)))) ≡ (bit m k && ok (listed c m (up_to k) ++ listed c m (from (suc k) j)))
      asked = ap (λ (s : List C). bit m k && ok s) (less-all c m k j l)

      now : (x : ℕ) → next ≡ x → struck_to (listed c x (up_to (suc k))) (listed c x (from (suc k) j)) ≡ struck_to (listed c next (up_to (suc k))) (listed c next (from (suc k) j))
      now x q = ap (λ (y : ℕ). struck_to (listed c y (up_to (suc k))) (listed c y (from (suc k) j))) (sym q)

-- ---- the covering rule

module _ (P : Setting) where
  -- the conjunct of an attribute, by words
  abbrev conjunct_by : Words → ℕ → Which → ℕ → List Cond
  conjunct_by W l w a = only (elem a (attrs_of (P.side w) (own_at w l)) && all_know (P.side w) (bit (members_of W w)) a) (conjunct w a (values_of (P.side w) (bit (members_of W w)) a))

  conjunct-there : (B : Block) (l : ℕ) (w : Which) (a : ℕ) → Is (elem a (attrs_of (P.side w) (own_at w l)))
      → only (all_know (P.side w) (stands_in P B w) a) (conjunct w a (values_of (P.side w) (stands_in P B w) a)) ≡ conjunct_by (words_of P B) l w a
  conjunct-there B l w a e =
      ap₂ (λ (b : Bool) (vs : List ℕ). only b (conjunct w a vs))
      (known_same (P.side w) _ _ (member-bit P B w) a ∙ sym (ap (λ (b : Bool). b && all_know (P.side w) (bit (members_of (words_of P B) w)) a) e))
      (values_same (P.side w) _ _ (member-bit P B w) a)

  conjunct-none : (W : Words) (l : ℕ) (w : Which) (a : ℕ) → elem a (attrs_of (P.side w) (own_at w l)) ≡ false → conjunct_by W l w a ≡ []
  conjunct-none W l w a e = ap (λ (b : Bool). only (b && all_know (P.side w) (bit (members_of W w)) a) (conjunct w a (values_of (P.side w) (bit (members_of W w)) a))) e

  -- the places below 14 are those of conjuncts
  pub cond-conjunct : (W : Words) (i : ℕ) → i < 14
      → cond_at P W i ≡ conjunct (place_side i) (place_attribute i) (values_of (P.side (place_side i)) (bit (members_of W (place_side i))) (place_attribute i))
  unfolding cond_at
  cond-conjunct W i l = ap (λ (b : Bool). cond b (conjunct (place_side i) (place_attribute i) (values_of (P.side (place_side i)) (bit (members_of W (place_side i))) (place_attribute i))) (atom ((i - 14) / 6) ((i - 14) % 6))) (lt-ltb i 14 l)

  -- and the others those of atoms
  pub cond-atom : (W : Words) (i : ℕ) → 14 ≤ i → cond_at P W i ≡ atom ((i - 14) / 6) ((i - 14) % 6)
  unfolding cond_at
  cond-atom W i l = ap (λ (b : Bool). cond b (conjunct (place_side i) (place_attribute i) (values_of (P.side (place_side i)) (bit (members_of W (place_side i))) (place_attribute i))) (atom ((i - 14) / 6) ((i - 14) % 6))) (le-ltb i 14 l)

  -- the operations of the written rule are those of the words
  pub written_ops_words : (B : Block) → (written P B).ops ≡ (words_of P B).ops
  unfolding words_of
  written_ops_words B = written-ops P B

  -- what the conditions at the places of a set, each trimmed, add up to
  module _ (W : Words) (f : Cond → ℕ) (m : ℕ) where
    abbrev cost_at : ℕ → ℕ
    cost_at i = cond (bit m i) (f (trim_cond P (cond_at P W i))) 0

    costs_split : sum f (listed (λ i. trim_cond P (cond_at P W i)) m (up_to 50)) ≡ sum cost_at (up_to 14) + sum cost_at (from 14 36)
    costs_split = sum-chosen f (bit m) (λ i. trim_cond P (cond_at P W i)) (up_to 50) ∙ sum-append cost_at (up_to 14) (from 14 36)

    -- where atoms add nothing, or conjuncts do not
    pub conjunct-costs : ((a b : ℕ) → f (atom a b) ≡ 0)
        → sum f (each (λ i. only (bit m i) (trim_cond P (cond_at P W i))) (up_to 50)) ≡ sum (λ i. cond (bit m i) (f (trim_cond P (cond_at P W i))) 0) (up_to 14)
    unfolding trim_cond
    conjunct-costs z = costs_split ∙ ap (λ (n : ℕ). sum cost_at (up_to 14) + n) (sum-none cost_at (from 14 36) none) ∙ add-zero (sum cost_at (up_to 14))
      where
        none : (i : ℕ) → i is_in from 14 36 → cost_at i ≡ 0
        none i k = ap (λ (c : Cond). cond (bit m i) (f (trim_cond P c)) 0) (cond-atom W i (from_out 14 36 k).0) ∙ ap (λ (n : ℕ). cond (bit m i) n 0) (z ((i - 14) / 6) ((i - 14) % 6)) ∙ cond_same (bit m i) 0

    pub atom-costs : ((w : Which) (a : ℕ) (vs : List ℕ) → f (conjunct w a vs) ≡ 0)
        → sum f (each (λ i. only (bit m i) (trim_cond P (cond_at P W i))) (up_to 50)) ≡ sum (λ i. cond (bit m i) (f (trim_cond P (cond_at P W i))) 0) (from 14 36)
    unfolding trim_cond
    atom-costs z = costs_split ∙ ap (λ (n : ℕ). n + sum cost_at (from 14 36)) (sum-none cost_at (up_to 14) none) ∙ zero-add (sum cost_at (from 14 36))
      where
        none : (i : ℕ) → i is_in up_to 14 → cost_at i ≡ 0
        none i k = ap (λ (c : Cond). cond (bit m i) (f (trim_cond P c)) 0) (cond-conjunct W i (up_to-out 14 k)) ∙ ap (λ (n : ℕ). cond (bit m i) n 0) (z (place_side i) (place_attribute i) _) ∙ cond_same (bit m i) 0

  module _ (Z : Roomy P) where
    side_places : (B : Block) (l : ℕ) (w : Which) → conjuncts P B l w ≡ each (conjunct_by (words_of P B) l w) (up_to 6 ++ (own ∷ []))
    unfolding conjuncts attrs_of
    side_places B l w =
        each_append given (up_to (P.side w).attrs) (only (own_at w l) own)
        ∙ ap₂ ◌++◌
        (each_ext given (conjunct_by (words_of P B) l w) (up_to (P.side w).attrs) (λ a m. conjunct-there B l w a (declared (P.side w) (own_at w l) a (up_to-out _ m)))
        ∙ sym (each_fewer (conjunct_by (words_of P B) l w) (P.side w).attrs 6 (Z.attributes w) (λ a m k. conjunct-none (words_of P B) l w a (undeclared (P.side w) (own_at w l) a m k))))
        (ending (own_at w l) (own-listed (P.side w) (own_at w l) (Z.attributes w)))
        ∙ sym (each_append (conjunct_by (words_of P B) l w) (up_to 6) (own ∷ []))
      where
        given : ℕ → List Cond
        given a = only (all_know (P.side w) (stands_in P B w) a) (conjunct w a (values_of (P.side w) (stands_in P B w) a))

        ending : (b : Bool) → elem own (attrs_of (P.side w) (own_at w l)) ≡ b → each given (only b own) ≡ each (conjunct_by (words_of P B) l w) (own ∷ [])
        ending true e = ap (λ (s : List Cond). s ++ []) (conjunct-there B l w own e)
        ending false e = sym (ap (λ (s : List Cond). s ++ []) (conjunct-none (words_of P B) l w own e))

    -- the atoms at a user attribute, by words
    atoms-at : (B : Block) (a b : ℕ) → a < (P.side user).attrs → b < (P.side resource).attrs
        → only (everywhere P B (atom a b)) (atom a b) ≡ only (bit (words_of P B).atoms (6 * a + b)) (atom a b)
    unfolding atom_in
    atoms-at B a b la lb =
        let m = Z.attributes user in
        let n = Z.attributes resource in
        ap (λ (x : Bool). only x (atom a b))
        (sym (atom-bit P B a b (omega arith) (omega arith) ∙ ap₂ (λ (x y : Bool). x && (y && everywhere P B (atom a b))) (lt-ltb a _ la) (lt-ltb b _ lb)))

    atom-past : (B : Block) (a b : ℕ) → a < 6 → b < 6 → (ltb a (P.side user).attrs && ltb b (P.side resource).attrs) ≡ false → only (bit (words_of P B).atoms (6 * a + b)) (atom a b) ≡ []
    unfolding atom_in
    atom-past B a b la lb e =
        ap (λ (x : Bool). only x (atom a b))
        (atom-bit P B a b la lb ∙ sym (and_assoc (ltb a (P.side user).attrs) (ltb b (P.side resource).attrs) (everywhere P B (atom a b))) ∙ ap (λ (x : Bool). x && everywhere P B (atom a b)) e)

    atom-places : (B : Block) → atom_conds P B ≡ each (λ a. each (λ b. only (bit (words_of P B).atoms (6 * a + b)) (atom a b)) (up_to 6)) (up_to 6)
    unfolding atom_conds
    atom-places B =
        each_ext (λ a. each (λ b. only (everywhere P B (atom a b)) (atom a b)) (up_to (P.side resource).attrs)) (λ a. each (there a) (up_to 6)) (up_to (P.side user).attrs) (λ a m.
        each_ext (λ b. only (everywhere P B (atom a b)) (atom a b)) (there a) (up_to (P.side resource).attrs) (λ b k. atoms-at B a b (up_to-out _ m) (up_to-out _ k))
        ∙ sym (each_fewer (there a) (P.side resource).attrs 6 (Z.attributes resource) (λ b l k. atom-past B a b (first a m) k (past-second a b l))))
        ∙ sym (each_fewer (λ a. each (there a) (up_to 6)) (P.side user).attrs 6 (Z.attributes user) (λ a l k. each_none (there a) (up_to 6) (λ b m. atom-past B a b k (up_to-out 6 m) (past_first a b l))))
      where
        there : ℕ → ℕ → List Cond
        there a b = only (bit (words_of P B).atoms (6 * a + b)) (atom a b)

        first : (a : ℕ) → a is_in up_to (P.side user).attrs → a < 6
        first a m = let k = up_to-out (P.side user).attrs m in let l = Z.attributes user in omega arith

        past_first : (a b : ℕ) → (P.side user).attrs ≤ a → (ltb a (P.side user).attrs && ltb b (P.side resource).attrs) ≡ false
        past_first a b l = ap (λ (x : Bool). x && ltb b (P.side resource).attrs) (le-ltb a (P.side user).attrs l)

        past-second : (a b : ℕ) → (P.side resource).attrs ≤ b → (ltb a (P.side user).attrs && ltb b (P.side resource).attrs) ≡ false
        past-second a b l = ap (λ (x : Bool). ltb a (P.side user).attrs && x) (le-ltb b (P.side resource).attrs l) ∙ and_comm (ltb a (P.side user).attrs) false

    -- the conditions of a covering rule, place by place
    pub cover_places : (B : Block) (l : ℕ) → (cover P B l).conds ≡ each (λ i. only (has_at P (words_of P B) l i) (cond_at P (words_of P B) i)) (up_to 50)
    unfolding cover has_at cond_at
    cover_places B l =
        ap₂ ◌++◌ (ap₂ ◌++◌ (side_places B l user) (side_places B l resource)) (atom-places B ∙ sym (each-each there (λ a. from (14 + 6 * a) 6) (up_to 6)))
        ∙ sym (each_append there (up_to 14) (from 14 36) ∙ ap (λ (s : List Cond). s ++ each there (from 14 36)) (each_append there (up_to 7) (from 7 7)))
      where
        there : ℕ → List Cond
        there i = only (has_at P (words_of P B) l i) (cond_at P (words_of P B) i)

    -- ---- the written rule

    module _ (L : Lawful P) where
      holds_at_lem : (W : Words) (i u r : ℕ) → holds P (trim_cond P (cond_at P W i)) u r ≡ holds_at P W i u r
      unfolding cond_at holds_at holds
      holds_at_lem W i u r = holds-trim P L (cond_at P W i) u r ∙ go (ltb i 14)
        where
          go : (b : Bool)
              → holds P (cond b (conjunct (place_side i) (place_attribute i) (values_of (P.side (place_side i)) (bit (members_of W (place_side i))) (place_attribute i))) (atom ((i - 14) / 6) ((i - 14) % 6))) u r
              ≡ cond b (met_by (P.side (place_side i)) (place_attribute i) (bit (members_of W (place_side i))) (by (place_side i) u r)) (holds P (atom ((i - 14) / 6) ((i - 14) % 6)) u r)
          go true = meets-met (P.side (place_side i)) (bit (members_of W (place_side i))) (place_attribute i) (by (place_side i) u r)
          go false = refl

      -- the rule with the conditions at some places, each trimmed, grants what the places do
      places-grant : (W : Words) (m u r o : ℕ) → grants P (record { ops = W.ops; conds = each (λ i. only (bit m i) (trim_cond P (cond_at P W i))) (up_to 50) }) u r o ≡ places_grant P W m u r o
      unfolding grants places_grant
      places-grant W m u r o =
          ap (λ (b : Bool). bit W.ops o && b)
          (all-chosen (λ c. holds P c u r) (bit m) (λ i. trim_cond P (cond_at P W i)) (up_to 50)
          ∙ all_ext (λ i. imp (bit m i) (holds P (trim_cond P (cond_at P W i)) u r)) (λ i. imp (bit m i) (holds_at P W i u r)) (up_to 50) (λ i k. ap (imp (bit m i)) (holds_at_lem W i u r)))

      module _ (B : Block) (fit : Is (fits P B 3)) where
        -- the condition that the written rule may have at a place
        abbrev trimmed_at : ℕ → Cond
        trimmed_at i = trim_cond P (cond_at P (words_of P B) i)

        -- the test of striking
        abbrev still_just : List Cond → Bool
        still_just = grants_just P B (words_of P B).ops

        places_just : (m : ℕ) → still_just (listed trimmed_at m (up_to 50)) ≡ same_block P (places_grant P (words_of P B) m) (spans P (words_of P B))
        unfolding grants_just
        places_just m =
            same_tests P (grants P (record { ops = (words_of P B).ops; conds = listed trimmed_at m (up_to 50) })) B (places_grant P (words_of P B) m) (spans P (words_of P B))
            (λ u r o t. places-grant (words_of P B) m u r o)
            (spans-own P Z L B fit)

        -- striking up to the place k is thinning by k turns
        strike_places : (m k j : ℕ) → k + j ≡ 50
            → strike still_just [] (listed trimmed_at m (up_to 50)) ≡ struck_to still_just (listed trimmed_at (thinned_to P (words_of P B) m k) (up_to k)) (listed trimmed_at (thinned_to P (words_of P B) m k) (from k j))
        unfolding thinned_at
        strike_places m zero j e = let d : 50 ≡ j = omega arith in ap (λ (x : ℕ). strike still_just [] (listed trimmed_at m (up_to x))) d
        strike_places m (suc k) j e =
            let d : 50 ≡ k + suc j = omega arith in
            let n = thinned_to P (words_of P B) m k in
            strike_places m k (suc j) (sym d)
            ∙ strike-turn still_just trimmed_at n k j (omega arith) (thinned_at P (words_of P B) n k)
            (ap (λ (b : Bool). cond (bit n k && b) (less n k) n) (sym (places_just (less n k)) ∙ ap (λ (x : ℕ). still_just (listed trimmed_at (less n k) (up_to x))) d))

        -- the conditions to strike from
        trimmed_places : (l : ℕ) → map (trim_cond P) (cover P B l).conds ≡ listed trimmed_at (mask_of 50 (has_at P (words_of P B) l)) (up_to 50)
        trimmed_places l =
            ap (map (trim_cond P)) (cover_places B l)
            ∙ map-chosen (trim_cond P) (has_at P (words_of P B) l) (cond_at P (words_of P B)) (up_to 50)
            ∙ each_ext (λ i. only (has_at P (words_of P B) l i) (trimmed_at i)) (λ i. only (bit (mask_of 50 (has_at P (words_of P B) l)) i) (trimmed_at i)) (up_to 50) (λ i k. ap (λ (b : Bool). only b (trimmed_at i)) (sym (bit_mask 50 (has_at P (words_of P B) l) i (up_to-out 50 k))))

        -- the conditions of the written rule, place by place
        pub written_places : (written P B).conds ≡ each (λ i. only (bit (kept_places P (words_of P B) (level_of P B)) i) (trim_cond P (cond_at P (words_of P B) i))) (up_to 50)
        unfolding written thinned kept_places cover words_of
        written_places =
            ap (strike still_just []) (trimmed_places (level_of P B))
            ∙ strike_places (mask_of 50 (has_at P (words_of P B) (level_of P B))) 50 0 refl
            ∙ append-nil (listed trimmed_at (kept_places P (words_of P B) (level_of P B)) (up_to 50))
