-- What the words of a set of triples say of its covering rule, of its level, of merging and of a part.
-- Assumes nothing.
use Rattle.std.specs.Prelude.{ℕ, ◌+◌, ◌*◌, ◌/◌, ◌%◌, ◌≤◌, ◌<◌, Bool, ◌⊎◌, ◌≡◌}
use borrow.Author.Tests.{ltb-true, lt-ltb}
use Rattle.std.proofs.Math.Dec.{ltb}
use Rattle.std.proofs.Math.Bool.{true, false, ◌&&◌, ◌||◌, and_assoc, and-true}
use Rattle.std.proofs.lemmas.Bool.{false≢true}
use mathlib.Core.List.{List, [], ◌∷◌, ◌++◌}
use Rattle.std.proofs.Common.{inl, inr, ◌∙◌, arith}
use Rattle.std.proofs.Math.Option.{Option, none, some}
use Rattle.std.proofs.Math.Path.{refl, sym, ap, ap₂, fun_ext}
use Rattle.policy.proofs.CoverLaws.{pair-in, stands-in, op-in, op-out, everywhere_in, everywhere-out, atom_conds_in, atom_conds-out, fits-exact}
use Rattle.policy.specs.Covering.{known, all_know, values_of, op_in, pair_in, stands_in, everywhere, conjuncts, atom_conds, cover, fits}
use Rattle.policy.specs.Merging.{union}
use Rattle.policy.proofs.PartLaws.{alike_in, parts_out}
use Rattle.policy.specs.Policy.{Policy, side_of, setting_of}
use Rattle.policy.specs.Roles.{Roles, Part, alike, leads, is_part, parts, block_of, class_of}
use Rattle.policy.proofs.RuleLaws.{Lawful, same_in, same_out}
use Rattle.policy.specs.Rules.{Side, Which, by, Setting, Cond, Block, both, meets, attrs_of, own_at, holds, grants, Triple, Same, same_block, user, resource, conjunct, atom}
use Rattle.policy.proofs.SideLaws.{Ordered, admits-out, admits_in, values-in, values-out}
use Rattle.sets.specs.ListLaws.{all_ext, keep_ext, all_append, any_append}
use Rattle.sets.specs.MaskLaws.{bit-mask_of, mask_same, mask_wide}
use Rattle.sets.specs.Sets.{bit, mask_of}
use Rattle.sets.specs.SetLaws.{bit_mask}
use Rattle.sets.specs.Sorted.{sort}
use Rattle.sets.specs.Tests.{Is, imp, ◌is_in◌, all, any, keep, each, only, up_to, is_some}
use Rattle.sets.specs.TestLaws.{and_in, and_l, and_r, or_l, or_r, or_out, test, same, imp_in, imp-out, all-out, all_in, any_in, any_out, keep_in, up_to_in, up_to-out, any_ext, is_some-out}
use Rattle.mine_theory.specs.Words.Words.{Words, members_of, Roomy, met_by, passes, joined, together, atom_in, words_of, atoms_hold, cover_grants, spans, pair_fits, own_fits, part_atom}
use Rattle.role_record.specs.Record.{Sized}

-- ---- tests over lists

module _ {A : Type 0} where
  -- one of a list passes one of two tests
  any_or : (f g : A → Bool) (l : List A) → any (λ a. f a || g a) l ≡ (any f l || any g l)
  any_or f g [] = refl
  any_or f g (x ∷ xs) = ap (λ (b : Bool). (f x || g x) || b) (any_or f g xs) ∙ swap (f x) (g x) (any f xs) (any g xs)
    where
      swap : (a b c d : Bool) → ((a || b) || (c || d)) ≡ ((a || c) || (b || d))
      swap true b c d = refl
      swap false true true d = refl
      swap false true false d = refl
      swap false false c d = refl

-- all conditions of a list hold where each that its test lets in does
pub all-chosen : {A B : Type 0} (f : B → Bool) (p : A → Bool) (g : A → B) (l : List A) → all f (each (λ a. only (p a) (g a)) l) ≡ all (λ a. imp (p a) (f (g a))) l
all-chosen f p g [] = refl
all-chosen f p g (x ∷ xs) = all_append f (only (p x) (g x)) (each (λ a. only (p a) (g a)) xs) ∙ ap₂ ◌&&◌ (one (p x)) (all-chosen f p g xs)
  where
    one : (b : Bool) → all f (only b (g x)) ≡ imp b (f (g x))
    one true = and-true (f (g x))
    one false = refl

-- each number below n that passes the first test passes the second
below_in : (n : ℕ) (p f : ℕ → Bool) → ((i : ℕ) → i < n → Is (p i) → Is (f i)) → Is (all (λ i. imp (p i) (f i)) (up_to n))
below_in n p f h = all_in (λ i. imp (p i) (f i)) (up_to n) (λ i m. imp_in (p i) (f i) (h i (up_to-out n m)))

below_out : (n : ℕ) (p f : ℕ → Bool) → Is (all (λ i. imp (p i) (f i)) (up_to n)) → (i : ℕ) → i < n → Is (p i) → Is (f i)
below_out n p f h i l = imp-out (f i) (all-out (λ i. imp (p i) (f i)) h (up_to_in l))

either : {X Y C : Type 0} → X ⊎ Y → (X → C) → (Y → C) → C
either (inl x) f g = f x
either (inr y) f g = g y

both_in : (f : ℕ → ℕ → Bool) {p q : Option ℕ} {x y : ℕ} → p ≡ some x → q ≡ some y → Is (f x y) → Is (both f p q)
both_in f d e h = rw (d, e) h

both_out : (f : ℕ → ℕ → Bool) (p q : Option ℕ) → Is (both f p q) → (x y : ℕ) × (p ≡ some x) × (q ≡ some y) × Is (f x y)
both_out f none q h = absurd (false≢true h)
both_out f (some x) none h = absurd (false≢true h)
both_out f (some x) (some y) h = (x, y, refl, refl, h)

-- ---- one side

module _ (S : Side) where
  -- two tests say the same of everybody there is
  abbrev pub Agree : (ℕ → Bool) → (ℕ → Bool) → Type 0
  Agree W X = (x : ℕ) → x < S.count → W x ≡ X x

  kept_same : (W X : ℕ → Bool) → Agree W X → keep W (up_to S.count) ≡ keep X (up_to S.count)
  kept_same W X e = keep_ext W X (up_to S.count) (λ x m. e x (up_to-out S.count m))

  -- whether all of a set know an attribute goes by its members alone
  pub known_same : (W X : ℕ → Bool) → Agree W X → (a : ℕ) → all_know S W a ≡ all_know S X a
  unfolding all_know
  known_same W X e a = ap (all (λ w. is_some (S.value a w))) (kept_same W X e)

  -- and so do their values
  pub values_same : (W X : ℕ → Bool) → Agree W X → (a : ℕ) → values_of S W a ≡ values_of S X a
  unfolding values_of
  values_same W X e a = ap (λ (l : List ℕ). sort ltb (each (λ w. known (S.value a w)) l)) (kept_same W X e)

  -- to meet the conjunct of a set's values is to meet the value of one of the set
  pub meets-met : (W : ℕ → Bool) (a x : ℕ) → meets S a (values_of S W a) x ≡ met_by S a W x
  unfolding meets met_by
  meets-met W a x = same (meets S a (values_of S W a) x) (met_by S a W x) there back
    where
      there : Is (meets S a (values_of S W a) x) → Is (met_by S a W x)
      there h =
          let t = admits-out (S.below a) (values_of S W a) (S.value a x) h in
          let s = values-out S W a t.3 in
          any_in (λ y. W y && both (S.below a) (S.value a y) (S.value a x)) (up_to_in s.1) (and_in s.2 (both_in (S.below a) s.3 t.1 t.4))

      back : Is (met_by S a W x) → Is (meets S a (values_of S W a) x)
      back h =
          let t = any_out (λ y. W y && both (S.below a) (S.value a y) (S.value a x)) (up_to S.count) h in
          let s = both_out (S.below a) (S.value a t.0) (S.value a x) (and_r (W t.0) _ t.2) in
          admits_in (S.below a) s.3 (values-in S W a (up_to-out S.count t.1) (and_l (W t.0) _ t.2) s.2) s.4

  module _ (O : Ordered S) where
    -- a member of a set passes its conjuncts
    pub members_pass : (among : List ℕ) (W : ℕ → Bool) (x : ℕ) → x < S.count → Is (W x) → Is (passes S among W x)
    unfolding passes all_know met_by
    members_pass among W x l h = all_in _ among λ a m. imp_in (all_know S W a) (met_by S a W x) λ k.
        let t = is_some-out (S.value a x) (all-out (λ w. is_some (S.value a w)) k (keep_in W (up_to_in l) h)) in
        any_in (λ y. W y && both (S.below a) (S.value a y) (S.value a x)) (up_to_in l) (and_in h (both_in (S.below a) t.1 t.1 (O.self a t.0)))

-- ---- masks

-- the mask of a test put together of two tests
mask_joined : (op : Bool → Bool → Bool) → op false false ≡ false → (n : ℕ) → n ≤ 64 → (f g h : ℕ → Bool) → ((i : ℕ) → i < n → h i ≡ op (f i) (g i))
    → mask_of n h ≡ mask_of 64 (λ k. op (bit (mask_of n f) k) (bit (mask_of n g) k))
mask_joined op e n l f g h k = mask_wide n 64 h l ∙ mask_same 64 (λ i. ltb i n && h i) (λ i. op (bit (mask_of n f) i) (bit (mask_of n g) i)) at
  where
    at : (i : ℕ) → i < 64 → (ltb i n && h i) ≡ op (bit (mask_of n f) i) (bit (mask_of n g) i)
    at i q = test (ltb i n)
        (λ p. ap (λ (b : Bool). b && h i) p ∙ k i (ltb-true i n p) ∙ sym (ap₂ op (bit_mask n f i (ltb-true i n p)) (bit_mask n g i (ltb-true i n p))))
        (λ p. ap (λ (b : Bool). b && h i) p ∙ sym (ap₂ op (bit-mask_of n f i ∙ ap (λ (b : Bool). b && f i) p) (bit-mask_of n g i ∙ ap (λ (b : Bool). b && g i) p) ∙ e))

-- words that agree one by one
pub words_same : {a b c d e f g h : ℕ} → a ≡ e → b ≡ f → c ≡ g → d ≡ h
    → ◌≡◌ {A = Words} (record { users = a; resources = b; ops = c; atoms = d }) (record { users = e; resources = f; ops = g; atoms = h })
words_same p q r s = cc

-- an atom's number, and the atom of a number
number-first : (a b : ℕ) → b < 6 → (6 * a + b) / 6 ≡ a
number-first a b h = omega arith

number-second : (a b : ℕ) → b < 6 → (6 * a + b) % 6 ≡ b
number-second a b h = omega arith

module _ (P : Setting) where
  -- who stands in a set of triples is a member by its words
  pub member-bit : (B : Block) (w : Which) → Agree (P.side w) (stands_in P B w) (bit (members_of (words_of P B) w))
  unfolding words_of
  member-bit B user x l = sym (bit_mask (P.side user).count (stands_in P B user) x l)
  member-bit B resource x l = sym (bit_mask (P.side resource).count (stands_in P B resource) x l)

  conjuncts_pass : (B : Block) (l : ℕ) (w : Which) (u r : ℕ)
      → all (λ c. holds P c u r) (conjuncts P B l w) ≡ passes (P.side w) (attrs_of (P.side w) (own_at w l)) (bit (members_of (words_of P B) w)) (by w u r)
  unfolding conjuncts passes holds
  conjuncts_pass B l w u r =
      all-chosen (λ c. holds P c u r) (all_know (P.side w) (stands_in P B w)) (λ a. conjunct w a (values_of (P.side w) (stands_in P B w) a)) (attrs_of (P.side w) (own_at w l))
      ∙ all_ext _ _ (attrs_of (P.side w) (own_at w l)) λ a m.
      ap₂ imp (known_same (P.side w) _ _ (member-bit B w) a)
      (ap (λ (vs : List ℕ). meets (P.side w) a vs (by w u r)) (values_same (P.side w) _ _ (member-bit B w) a) ∙ meets-met (P.side w) (bit (members_of (words_of P B) w)) a (by w u r))

  -- the words have an atom of the tables where it is one of the set
  pub atom-bit : (B : Block) (a b : ℕ) → a < 6 → b < 6 → bit (words_of P B).atoms (6 * a + b) ≡ atom_in P B a b
  unfolding words_of
  atom-bit B a b la lb = bit_mask 36 (λ i. atom_in P B (i / 6) (i % 6)) (6 * a + b) (omega arith) ∙ ap₂ (atom_in P B) (number-first a b lb) (number-second a b lb)

  -- an atom of the words is over declared attributes, and true of all pairs
  atom-out : (B : Block) (i : ℕ) → i < 36 → Is (bit (words_of P B).atoms i)
      → (i / 6 < (P.side user).attrs) × (i % 6 < (P.side resource).attrs) × Is (everywhere P B (atom (i / 6) (i % 6)))
  unfolding words_of atom_in
  atom-out B i l h =
      let k = sym (bit_mask 36 (λ i. atom_in P B (i / 6) (i % 6)) i l) ∙ h in
      let d = and_r (ltb (i / 6) (P.side user).attrs) _ k in
      (ltb-true _ _ (and_l (ltb (i / 6) (P.side user).attrs) _ k), ltb-true _ _ (and_l (ltb (i % 6) (P.side resource).attrs) _ d), and_r (ltb (i % 6) (P.side resource).attrs) _ d)

  atoms_hold_in : (m u r : ℕ) → ((i : ℕ) → i < 36 → Is (bit m i) → Is (holds P (atom (i / 6) (i % 6)) u r)) → Is (atoms_hold P m u r)
  unfolding atoms_hold
  atoms_hold_in m u r h = below_in 36 (bit m) (λ i. holds P (atom (i / 6) (i % 6)) u r) h

  atoms_hold-out : (m u r : ℕ) → Is (atoms_hold P m u r) → (i : ℕ) → i < 36 → Is (bit m i) → Is (holds P (atom (i / 6) (i % 6)) u r)
  unfolding atoms_hold
  atoms_hold-out m u r h = below_out 36 (bit m) (λ i. holds P (atom (i / 6) (i % 6)) u r) h

  module _ (Z : Roomy P) where
    atom-in : (B : Block) (a b : ℕ) → a < (P.side user).attrs → b < (P.side resource).attrs → Is (everywhere P B (atom a b)) → Is (bit (words_of P B).atoms (6 * a + b))
    unfolding atom_in
    atom-in B a b la lb h =
        let m = Z.attributes user in
        let n = Z.attributes resource in
        atom-bit B a b (omega arith) (omega arith) ∙ and_in (lt-ltb a (P.side user).attrs la) (and_in (lt-ltb b (P.side resource).attrs lb) h)

    atoms-hold : (B : Block) (u r : ℕ) → all (λ c. holds P c u r) (atom_conds P B) ≡ atoms_hold P (words_of P B).atoms u r
    atoms-hold B u r = same (all (λ c. holds P c u r) (atom_conds P B)) (atoms_hold P (words_of P B).atoms u r) there back
      where
        there : Is (all (λ c. holds P c u r) (atom_conds P B)) → Is (atoms_hold P (words_of P B).atoms u r)
        there h = atoms_hold_in (words_of P B).atoms u r λ i l k.
            let t = atom-out B i l k in
            all-out (λ c. holds P c u r) h (atom_conds_in P B t.0 t.1 t.2)

        back : Is (atoms_hold P (words_of P B).atoms u r) → Is (all (λ c. holds P c u r) (atom_conds P B))
        back h = all_in (λ c. holds P c u r) (atom_conds P B) λ c m.
            let t = atom_conds-out P B m in
            let d = Z.attributes user in
            let e = Z.attributes resource in
            let k = atoms_hold-out (words_of P B).atoms u r h (6 * t.0 + t.1) (omega (arith, t.2, t.3)) (atom-in B t.0 t.1 t.2 t.3 t.4) in
            rw t.5 (rw (number-first t.0 t.1 (omega (arith, t.3)), number-second t.0 t.1 (omega (arith, t.3))) at k)

    -- what the covering rule of a set of triples at a level grants, from the words
    pub cover-words : (B : Block) (l u r o : ℕ) → grants P (cover P B l) u r o ≡ cover_grants P (words_of P B) l u r o
    unfolding grants cover cover_grants words_of
    cover-words B l u r o =
        ap (λ (b : Bool). bit (mask_of P.slots (op_in P B)) o && b)
        (all_append (λ c. holds P c u r) (conjuncts P B l user ++ conjuncts P B l resource) (atom_conds P B)
        ∙ ap₂ ◌&&◌ (all_append (λ c. holds P c u r) (conjuncts P B l user) (conjuncts P B l resource)) (atoms-hold B u r)
        ∙ and_assoc (all (λ c. holds P c u r) (conjuncts P B l user)) (all (λ c. holds P c u r) (conjuncts P B l resource)) (atoms_hold P (words_of P B).atoms u r)
        ∙ ap₂ (λ (x y : Bool). x && (y && atoms_hold P (words_of P B).atoms u r)) (conjuncts_pass B l user u r) (conjuncts_pass B l resource u r))

  -- ---- two sets together

  pair-together : (A B : Block) (u r : ℕ) → pair_in P (together A B) u r ≡ (pair_in P A u r || pair_in P B u r)
  unfolding pair_in
  pair-together A B u r = any_or (A u r) (B u r) (up_to P.slots)

  stands-together : (A B : Block) (w : Which) (x : ℕ) → stands_in P (together A B) w x ≡ (stands_in P A w x || stands_in P B w x)
  unfolding stands_in
  stands-together A B user u = any_ext _ _ (up_to (P.side resource).count) (λ r m. pair-together A B u r) ∙ any_or (pair_in P A u) (pair_in P B u) (up_to (P.side resource).count)
  stands-together A B resource r = any_ext _ _ (up_to (P.side user).count) (λ u m. pair-together A B u r) ∙ any_or (λ u. pair_in P A u r) (λ u. pair_in P B u r) (up_to (P.side user).count)

  op-together : (A B : Block) (o : ℕ) → op_in P (together A B) o ≡ (op_in P A o || op_in P B o)
  unfolding op_in
  op-together A B o =
      any_ext _ _ (up_to (P.side user).count) (λ u m. any_or (λ r. A u r o) (λ r. B u r o) (up_to (P.side resource).count))
      ∙ any_or (λ u. any (λ r. A u r o) (up_to (P.side resource).count)) (λ u. any (λ r. B u r o) (up_to (P.side resource).count)) (up_to (P.side user).count)

  everywhere-together : (A B : Block) (c : Cond) → everywhere P (together A B) c ≡ (everywhere P A c && everywhere P B c)
  everywhere-together A B c =
      same (everywhere P (together A B) c) (everywhere P A c && everywhere P B c)
      (λ h. and_in
      (everywhere_in P A c λ u r lu lr p. everywhere-out P (together A B) c h u r lu lr (pair-together A B u r ∙ or_l (pair_in P B u r) p))
      (everywhere_in P B c λ u r lu lr p. everywhere-out P (together A B) c h u r lu lr (pair-together A B u r ∙ or_r (pair_in P A u r) p)))
      (λ h. everywhere_in P (together A B) c λ u r lu lr p.
      either (or_out (pair_in P A u r) (pair_in P B u r) (sym (pair-together A B u r) ∙ p))
      (everywhere-out P A c (and_l (everywhere P A c) (everywhere P B c) h) u r lu lr)
      (everywhere-out P B c (and_r (everywhere P A c) (everywhere P B c) h) u r lu lr))

  atom-together : (A B : Block) (a b : ℕ) → atom_in P (together A B) a b ≡ (atom_in P A a b && atom_in P B a b)
  unfolding atom_in
  atom-together A B a b =
      ap (λ (x : Bool). ltb a (P.side user).attrs && (ltb b (P.side resource).attrs && x)) (everywhere-together A B (atom a b))
      ∙ share (ltb a (P.side user).attrs) (ltb b (P.side resource).attrs) (everywhere P A (atom a b)) (everywhere P B (atom a b))
    where
      share : (p q x y : Bool) → (p && (q && (x && y))) ≡ ((p && (q && x)) && (p && (q && y)))
      share true true x y = refl
      share true false x y = refl
      share false q x y = refl

  -- the words of two sets of triples together are the words of both, joined
  pub words-joined : Roomy P → (A B : Block) → words_of P (together A B) ≡ joined (words_of P A) (words_of P B)
  unfolding words_of joined
  words-joined Z A B =
      words_same
      (mask_joined ◌||◌ refl (P.side user).count (Z.many user) (stands_in P A user) (stands_in P B user) (stands_in P (together A B) user) (λ i l. stands-together A B user i))
      (mask_joined ◌||◌ refl (P.side resource).count (Z.many resource) (stands_in P A resource) (stands_in P B resource) (stands_in P (together A B) resource) (λ i l. stands-together A B resource i))
      (mask_joined ◌||◌ refl P.slots Z.operable (op_in P A) (op_in P B) (op_in P (together A B)) (λ i l. op-together A B i))
      (mask_joined ◌&&◌ refl 36 (omega arith) (λ i. atom_in P A (i / 6) (i % 6)) (λ i. atom_in P B (i / 6) (i % 6)) (λ i. atom_in P (together A B) (i / 6) (i % 6)) (λ i l. atom-together A B (i / 6) (i % 6)))

  -- the union of two groups put together is both unions together
  pub union-joined : (block : ℕ → Block) (g h : List ℕ) → union P block (g ++ h) ≡ together (union P block g) (union P block h)
  unfolding union
  union-joined block g h = fun_ext λ u. fun_ext λ r. fun_ext λ o. any_append (λ p. block p u r o) g h

  -- ---- groups that fit

  -- two pairs of sets with the same triples are compared alike
  pub same_tests : (A B C D : Block) → Same P A C → Same P B D → same_block P A B ≡ same_block P C D
  same_tests A B C D e f =
      same (same_block P A B) (same_block P C D)
      (λ h. same_in P C D λ u r o t. sym (e u r o t) ∙ same_out P A B h u r o t ∙ f u r o t)
      (λ h. same_in P A B λ u r o t. e u r o t ∙ same_out P C D h u r o t ∙ sym (f u r o t))

  -- a set of triples lies in what its words span
  span_in : (B : Block) (u r o : ℕ) → Triple P u r o → Is (B u r o) → Is (spans P (words_of P B) u r o)
  unfolding spans words_of
  span_in B u r o t h =
      let p = pair-in P B t.op h in
      and_in (bit_mask P.slots (op_in P B) o t.op ∙ op-in P B t h)
      (and_in (sym (member-bit B user u t.user) ∙ stands-in P B user t.user t.resource p)
      (and_in (sym (member-bit B resource r t.resource) ∙ stands-in P B resource t.user t.resource p)
      (atoms_hold_in (words_of P B).atoms u r λ i l k. everywhere-out P B (atom (i / 6) (i % 6)) (atom-out B i l k).2 u r t.user t.resource p)))

  -- who and what the words span passes the covering rule at every level
  span_pass : Lawful P → (W : Words) (l u r o : ℕ) → Triple P u r o → Is (spans P W u r o) → Is (cover_grants P W l u r o)
  unfolding spans cover_grants
  span_pass L W l u r o t h =
      let k = and_r (bit W.ops o) _ h in
      let q = and_r (bit W.users u) _ k in
      and_in (and_l (bit W.ops o) _ h)
      (and_in (members_pass (P.side user) (L user) (attrs_of (P.side user) (own_at user l)) (bit W.users) u t.user (and_l (bit W.users u) _ k))
      (and_in (members_pass (P.side resource) (L resource) (attrs_of (P.side resource) (own_at resource l)) (bit W.resources) r t.resource (and_l (bit W.resources r) _ q))
      (and_r (bit W.resources r) _ q)))

  module _ (Z : Roomy P) (L : Lawful P) where
    -- a set of triples that fits level 3 is what its words span
    pub spans-own : (B : Block) → Is (fits P B 3) → (u r o : ℕ) → Triple P u r o → B u r o ≡ spans P (words_of P B) u r o
    spans-own B f u r o t =
        same (B u r o) (spans P (words_of P B) u r o)
        (span_in B u r o t)
        (λ h. sym (fits-exact P L B 3 f u r o t) ∙ cover-words Z B 3 u r o ∙ span_pass L (words_of P B) 3 u r o t h)

    -- whether two sets together fit a level, from their words
    pub fits-words : (A B : Block) → Is (fits P A 3) → Is (fits P B 3) → (l : ℕ) → fits P (together A B) l ≡ pair_fits P (words_of P A) (words_of P B) l
    unfolding fits pair_fits
    fits-words A B f g l =
        same_tests (grants P (cover P (together A B) l)) (together A B) (cover_grants P (joined (words_of P A) (words_of P B)) l) (together (spans P (words_of P A)) (spans P (words_of P B)))
        (λ u r o t. cover-words Z (together A B) l u r o ∙ ap (λ (W : Words). cover_grants P W l u r o) (words-joined Z A B))
        (λ u r o t. ap₂ ◌||◌ (spans-own A f u r o t) (spans-own B g u r o t))

    -- whether a set fits a level, from its words
    pub own-words : (B : Block) → Is (fits P B 3) → (l : ℕ) → fits P B l ≡ own_fits P (words_of P B) l
    unfolding fits own_fits
    own-words B f l = same_tests (grants P (cover P B l)) B (cover_grants P (words_of P B) l) (spans P (words_of P B)) (λ u r o t. cover-words Z B l u r o) (spans-own B f)

  -- ---- the words of a part

  module _ (R : Roles) (p : Part) (m : p is_in parts P R) where
    -- the lowest operation of a part's class is one of the class
    lead-alike : Is (alike P R p.role p.lead p.lead)
    lead-alike = alike_in P R p.role p.lead p.lead (λ r l. refl)

    part-user : (u : ℕ) × (u is_in up_to (P.side user).count) × Is (R.held p.role u)
    unfolding is_part
    part-user = any_out (λ u. R.held p.role u) (up_to (P.side user).count) (and_l (any (λ u. R.held p.role u) (up_to (P.side user).count)) _ (parts_out P R m).2)

    part-resource : (r : ℕ) × (r is_in up_to (P.side resource).count) × Is (R.gives p.role r p.lead)
    unfolding is_part leads
    part-resource =
        any_out (λ r. R.gives p.role r p.lead) (up_to (P.side resource).count)
        (and_l (any (λ r. R.gives p.role r p.lead) (up_to (P.side resource).count)) _ (and_r (any (λ u. R.held p.role u) (up_to (P.side user).count)) _ (parts_out P R m).2))

    part_pair : (u r : ℕ) → pair_in P (block_of P R p) u r ≡ (R.held p.role u && R.gives p.role r p.lead)
    unfolding pair_in block_of
    part_pair u r =
        same (any (λ o. R.held p.role u && (R.gives p.role r p.lead && alike P R p.role p.lead o)) (up_to P.slots)) (R.held p.role u && R.gives p.role r p.lead)
        (λ h. let t = any_out (λ o. R.held p.role u && (R.gives p.role r p.lead && alike P R p.role p.lead o)) (up_to P.slots) h in
        let k = and_r (R.held p.role u) _ t.2 in
        and_in (and_l (R.held p.role u) _ t.2) (and_l (R.gives p.role r p.lead) _ k))
        (λ h. any_in (λ o. R.held p.role u && (R.gives p.role r p.lead && alike P R p.role p.lead o)) (up_to_in (parts_out P R m).1)
        (and_in (and_l (R.held p.role u) _ h) (and_in (and_r (R.held p.role u) _ h) lead-alike)))

    part-users : (u : ℕ) → stands_in P (block_of P R p) user u ≡ R.held p.role u
    unfolding stands_in
    part-users u =
        same (any (λ r. pair_in P (block_of P R p) u r) (up_to (P.side resource).count)) (R.held p.role u)
        (λ h. let t = any_out (λ r. pair_in P (block_of P R p) u r) (up_to (P.side resource).count) h in and_l (R.held p.role u) _ (sym (part_pair u t.0) ∙ t.2))
        (λ h. any_in (λ r. pair_in P (block_of P R p) u r) part-resource.1 (part_pair u part-resource.0 ∙ and_in h part-resource.2))

    part-resources : (r : ℕ) → stands_in P (block_of P R p) resource r ≡ R.gives p.role r p.lead
    unfolding stands_in
    part-resources r =
        same (any (λ u. pair_in P (block_of P R p) u r) (up_to (P.side user).count)) (R.gives p.role r p.lead)
        (λ h. let t = any_out (λ u. pair_in P (block_of P R p) u r) (up_to (P.side user).count) h in and_r (R.held p.role t.0) _ (sym (part_pair t.0 r) ∙ t.2))
        (λ h. any_in (λ u. pair_in P (block_of P R p) u r) part-user.1 (part_pair part-user.0 r ∙ and_in part-user.2 h))

    part-ops : (o : ℕ) → o < P.slots → op_in P (block_of P R p) o ≡ alike P R p.role p.lead o
    unfolding block_of
    part-ops o l =
        same (op_in P (block_of P R p) o) (alike P R p.role p.lead o)
        (λ h. let t = op-out P (block_of P R p) o h in and_r (R.gives p.role t.1 p.lead) _ (and_r (R.held p.role t.0) _ t.4))
        (λ h. op-in P (block_of P R p) (record { user = up_to-out (P.side user).count part-user.1; resource = up_to-out (P.side resource).count part-resource.1; op = l }) (and_in part-user.2 (and_in part-resource.2 h)))

    part-atoms : (a b : ℕ) → atom_in P (block_of P R p) a b ≡ part_atom P R p a b
    unfolding atom_in part_atom everywhere
    part-atoms a b =
        ap (λ (x : Bool). ltb a (P.side user).attrs && (ltb b (P.side resource).attrs && x))
        (all_ext _ _ (up_to (P.side user).count) λ u _. all_ext _ _ (up_to (P.side resource).count) λ r _. ap (λ (x : Bool). imp x (holds P (atom a b) u r)) (part_pair u r))

  -- the words of a part: its holders, its resources, its class, and the atoms true of all of them
  pub part-words : (R : Roles) (p : Part) → p is_in parts P R
      → words_of P (block_of P R p) ≡ record { users = mask_of (P.side user).count (R.held p.role); resources = mask_of (P.side resource).count (λ r. R.gives p.role r p.lead); ops = class_of P R p; atoms = mask_of 36 (λ i. part_atom P R p (i / 6) (i % 6)) }
  unfolding words_of class_of
  part-words R p m =
      words_same
      (mask_same (P.side user).count (stands_in P (block_of P R p) user) (R.held p.role) (λ u l. part-users R p m u))
      (mask_same (P.side resource).count (stands_in P (block_of P R p) resource) (λ r. R.gives p.role r p.lead) (λ r l. part-resources R p m r))
      (mask_same P.slots (op_in P (block_of P R p)) (alike P R p.role p.lead) (part-ops R p m))
      (mask_same 36 (λ i. atom_in P (block_of P R p) (i / 6) (i % 6)) (λ i. part_atom P R p (i / 6) (i % 6)) (λ i l. part-atoms R p m (i / 6) (i % 6)))

-- ---- the policies that the miner has room for

pub roomy : (F : Policy) → Sized F → Roomy (setting_of F)
unfolding setting_of side_of
roomy F Z = record { many = Z.many; attributes = Z.declared; operable = let n = Z.operable in omega arith }
