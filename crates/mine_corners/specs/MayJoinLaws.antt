-- Two groups that fit a level together pass the plain tests of whether they may become one.
-- Assumes nothing.
use Rattle.std.specs.Prelude.{ℕ, ◌+◌, ◌*◌, ◌^◌, ◌<◌, ltb, get_or, Bool, cond, ◌&&◌, ◌||◌, List, ◌⊎◌, ◌≡◌}
use borrow.Author.Tests.{eqb-true, eqb-false, eq-eqb, ne_eqb, ltb-true, not-true}
use Rattle.std.proofs.Math.Dec.{eqb}
use Rattle.std.proofs.Common.{pow_pos, inl, inr, ap, ◌∙◌, subst, arith}
use Rattle.std.proofs.Math.Bool.{true, false, not, or_comm, and_comm}
use Rattle.std.proofs.Math.Path.{refl, sym}
use Rattle.role_record.specs.Record.{Sized}
use Rattle.grant_links.specs.Linked.{linked_with, row_of}
use Rattle.policy.proofs.CoverLaws.{pair-out, stands-out, op-in}
use Rattle.policy.specs.Covering.{op_in, pair_in, stands_in, fits}
use Rattle.policy.specs.Policy.{Policy, side_of, setting_of}
use Rattle.policy.proofs.PolicyLaws.{lawful}
use Rattle.policy.proofs.RuleLaws.{Lawful, same_out}
use Rattle.policy.specs.Rules.{Setting, Block, attrs_of, own_at, Triple, NotEmpty, user, resource}
use Rattle.sets.specs.ListLaws.{all_ext}
use Rattle.sets.specs.Sets.{narrowing, bit, mask_of, subset}
use Rattle.sets.specs.MaskLaws.{bit-mask_of, mask_lt, mask_same, empty_law}
use Rattle.sets.specs.SetLaws.{bit-none, bit_mask, subset_in}
use Rattle.sets.specs.Tests.{Is, imp, all, any, up_to}
use Rattle.sets.specs.TestLaws.{and_in, and_l, and_r, or_l, or_r, or_out, never, test, all_in, all-out, any_out, up_to_in, up_to-out, not_in}
use Rattle.mine_theory.proofs.Words.WordLaws.{same_tests, spans-own, fits-words, words_same, roomy, members_pass}
use Rattle.mine_theory.specs.Words.Words.{Words, Roomy, joined, together, words_of, atoms_hold, cover_grants, spans, pair_fits}
use Rattle.mine_corners.specs.FitLaws.{Declared, declared-joined, row-bit, atoms-linked, words-declared}
use Rattle.grant_grids.specs.Links.{links_of}
use Rattle.mine_corners.specs.Pairing.{less, corner_free, reaches, corners_free, may_join}

-- a set that is not empty has a member
pub some-member : (m : ℕ) → m < 2 ^ 64 → (m ≡ 0 → ⊥) → (i : ℕ) × (i < 64) × Is (bit m i)
some-member m l h = test (any (bit m) (up_to 64))
    (λ q. let t = any_out (bit m) (up_to 64) q in (t.0, up_to-out 64 t.1, t.2))
    (λ q. absurd (h (eqb-true m 0 (empty_law 64 m l ∙ not_in (any (bit m) (up_to 64)) q))))

-- a row has resources below 64
row_low : (links : List ℕ) (m us rs u : ℕ) → row_of links m us rs u < 2 ^ 64
unfolding row_of linked_with
row_low links m us rs u = test (bit us u) (λ e. rw e (mask_lt 64 (narrowing rs (bit m) (λ i. get_or links (64 * i + u) 0) 36))) (λ e. rw e (pow_pos 64))

-- a member of the one set and not of the other
pub less-out : (a b k : ℕ) → k < 64 → Is (bit (less a b) k) → Is (bit a k) × (bit b k ≡ false)
less-out a b k l h =
    let q = sym (bit_mask 64 (λ k. bit a k && not (bit b k)) k l) ∙ h in
    (and_l (bit a k) _ q, not-true (bit b k) (and_r (bit a k) _ q))

-- ---- the code's steps

-- of two tests the first fails, or passes and the second decides
pub first-fails : {p a : Bool} (b : Bool) → p ≡ a → p ≡ false → false ≡ (a && b)
first-fails b e h = rw (sym e ∙ h) refl

pub second_decides : {p q a b : Bool} → p ≡ a → p ≡ true → q ≡ b → q ≡ (a && b)
second_decides e h k = rw (sym e ∙ h) k

module _ (links : List ℕ) (atoms us rs : ℕ) where
  -- a corner is free if each of its users is joined with nothing of it
  pub free-members : corner_free links atoms us rs ≡ all (λ u. imp (bit us u) (eqb (linked_with links atoms u rs) 0)) (up_to 64)
  unfolding corner_free row_of
  free-members = all_ext (λ u. eqb (row_of links atoms us rs u) 0) (λ u. imp (bit us u) (eqb (linked_with links atoms u rs) 0)) (up_to 64) (λ u _. member (bit us u) (linked_with links atoms u rs))
    where
      member : (b : Bool) (m : ℕ) → eqb (cond b m 0) 0 ≡ imp b (eqb m 0)
      member true m = refl
      member false m = eq-eqb 0 0 refl

  -- nobody in it and nothing in it are joined
  pub free-out : Is (corner_free links atoms us rs) → (u r : ℕ) → u < 64 → r < 64 → Is (bit us u) → Is (bit rs r) → Is (all (λ i. imp (bit atoms i) (bit (get_or links (64 * i + u) 0) r)) (up_to 36)) → ⊥
  unfolding corner_free
  free-out h u r lu lr p q k =
      never (row-bit links atoms us rs u r lr ∙ and_in p (and_in q k))
      (ap (λ (m : ℕ). bit m r) (eqb-true (row_of links atoms us rs u) 0 (all-out (λ u. eqb (row_of links atoms us rs u) 0) h (up_to_in lu))) ∙ bit-none r)

  -- it is free if that is so
  pub free_in : ((u r : ℕ) → u < 64 → r < 64 → Is (bit us u) → Is (bit rs r) → Is (all (λ i. imp (bit atoms i) (bit (get_or links (64 * i + u) 0) r)) (up_to 36)) → ⊥) → Is (corner_free links atoms us rs)
  unfolding corner_free
  free_in h = all_in (λ u. eqb (row_of links atoms us rs u) 0) (up_to 64) λ u m. test (eqb (row_of links atoms us rs u) 0) (λ e. e) (λ e.
      let t = some-member (row_of links atoms us rs u) (row_low links atoms us rs u) (eqb-false _ 0 e) in
      let k = sym (row-bit links atoms us rs u t.0 t.1) ∙ t.2 in
      let j = and_r (bit us u) _ k in
      absurd (h u t.0 (up_to-out 64 m) t.1 (and_l (bit us u) _ k) (and_l (bit rs t.0) _ j) (and_r (bit rs t.0) _ j)))

  -- one without resources is free
  pub free-nothing : rs ≡ 0 → true ≡ corner_free links atoms us rs
  free-nothing e = sym (free_in (λ u r _ _ p q k. never q (ap (λ (m : ℕ). bit m r) e ∙ bit-none r)))

module _ (W X : Words) where
  -- the group has no operation that the other lacks
  pub reaches_plain : {m : ℕ} → m ≡ less W.ops X.ops → m ≡ 0 → true ≡ reaches W X
  unfolding reaches
  reaches_plain e h = sym (or_l (subset X.users W.users && subset X.resources W.resources) (eq-eqb (less W.ops X.ops) 0 (sym e ∙ h)))

  -- it has one
  pub reaches-both : {m : ℕ} → m ≡ less W.ops X.ops → (m ≡ 0 → ⊥) → (subset X.users W.users && subset X.resources W.resources) ≡ reaches W X
  unfolding reaches
  reaches-both e h = rw (ne_eqb (less W.ops X.ops) 0 (λ q. h (e ∙ q))) refl

  module _ (links : List ℕ) where
    -- the first corner is not free
    pub corners-refused : {m a b : ℕ} {p : Bool} → m ≡ mask_of 64 (λ k. bit W.atoms k && bit X.atoms k) → a ≡ less W.users X.users → b ≡ less X.resources W.resources
        → p ≡ corner_free links m a b → p ≡ false → false ≡ corners_free links W X
    unfolding corners_free joined
    corners-refused e f g h q = first-fails (corner_free links (joined W X).atoms (less X.users W.users) (less W.resources X.resources)) (rw (e, f, g) at h) q

    -- it is, and the second decides
    pub corners-rest : {m a b c d : ℕ} {p q : Bool} → m ≡ mask_of 64 (λ k. bit W.atoms k && bit X.atoms k) → a ≡ less W.users X.users → b ≡ less X.resources W.resources
        → c ≡ less X.users W.users → d ≡ less W.resources X.resources → p ≡ corner_free links m a b → p ≡ true → q ≡ corner_free links m c d → q ≡ corners_free links W X
    unfolding corners_free joined
    corners-rest e f g j k h t r = second_decides (rw (e, f, g) at h) t (rw (e, j, k) at r)

-- ---- groups that fit together

-- a user and a resource stand in a pair of a group
abbrev pub paired : Setting → Words → ℕ → ℕ → Bool
paired P W u r = bit W.users u && (bit W.resources r && atoms_hold P W.atoms u r)

-- a group with an operation, in which everybody stands in a pair
pub record Stands (P : Setting) (W : Words) : Type 0 where
  pub by-user : (u : ℕ) → Is (bit W.users u) → (r : ℕ) × (u < (P.side user).count) × (r < (P.side resource).count) × Is (paired P W u r)
  pub by-resource : (r : ℕ) → Is (bit W.resources r) → (u : ℕ) × (u < (P.side user).count) × (r < (P.side resource).count) × Is (paired P W u r)
  pub operation : (o : ℕ) × (o < P.slots) × Is (bit W.ops o)
  pub within : (o : ℕ) → Is (bit W.ops o) → o < P.slots

joined-turned : (W X : Words) → joined W X ≡ joined X W
unfolding joined
joined-turned W X =
    words_same (either W.users X.users) (either W.resources X.resources) (either W.ops X.ops)
    (mask_same 64 (λ k. bit W.atoms k && bit X.atoms k) (λ k. bit X.atoms k && bit W.atoms k) (λ k _. and_comm (bit W.atoms k) (bit X.atoms k)))
  where
    either : (a b : ℕ) → mask_of 64 (λ k. bit a k || bit b k) ≡ mask_of 64 (λ k. bit b k || bit a k)
    either a b = mask_same 64 (λ k. bit a k || bit b k) (λ k. bit b k || bit a k) (λ k _. or_comm (bit a k) (bit b k))

-- the order of two groups does not matter
pub fits-turned : (P : Setting) (W X : Words) (l : ℕ) → pair_fits P W X l ≡ pair_fits P X W l
unfolding pair_fits
fits-turned P W X l =
    same_tests P (cover_grants P (joined W X) l) (together (spans P W) (spans P X)) (cover_grants P (joined X W) l) (together (spans P X) (spans P W))
    (λ u r o t. ap (λ (N : Words). cover_grants P N l u r o) (joined-turned W X)) (λ u r o t. or_comm (spans P W u r o) (spans P X u r o))

module _ (P : Setting) (Z : Roomy P) (L : Lawful P) (W X : Words) (A : Stands P W) (B : Stands P X) (l : ℕ) (f : Is (pair_fits P W X l)) where
  covers : (u r o : ℕ) → Triple P u r o → cover_grants P (joined W X) l u r o ≡ (spans P W u r o || spans P X u r o)
  unfolding pair_fits
  covers u r o t = same_out P (cover_grants P (joined W X) l) (together (spans P W) (spans P X)) f u r o t

  -- an operation of either is one of both together
  joined-op : (o : ℕ) → o < P.slots → Is (bit W.ops o || bit X.ops o) → Is (bit (joined W X).ops o)
  unfolding joined
  joined-op o h q = let m = Z.operable in bit_mask 64 (λ k. bit W.ops k || bit X.ops k) o (omega arith) ∙ q

  -- what the covering rule grants for one operation it grants for all
  moves : (u r o p : ℕ) → Triple P u r o → p < P.slots → Is (spans P W u r o || spans P X u r o) → Is (bit W.ops p || bit X.ops p) → Is (spans P W u r p || spans P X u r p)
  unfolding cover_grants
  moves u r o p t h q k =
      sym (covers u r p (record { user = t.user; resource = t.resource; op = h })) ∙ and_in (joined-op p h k) (and_r (bit (joined W X).ops o) _ (covers u r o t ∙ q))

  -- the pairs of the second are pairs of a first that has an operation which the second lacks
  pair-moves : (o : ℕ) → Is (bit W.ops o) → bit X.ops o ≡ false → (u r : ℕ) → u < (P.side user).count → r < (P.side resource).count → Is (paired P X u r) → Is (paired P W u r)
  unfolding spans
  pair-moves o p q u r lu lr h =
      go (or_out (spans P W u r o) (spans P X u r o)
      (moves u r B.operation.0 o (record { user = lu; resource = lr; op = B.operation.1 }) (A.within o p) (or_r (spans P W u r B.operation.0) (and_in B.operation.2 h)) (or_l (bit X.ops o) p)))
    where
      go : Is (spans P W u r o) ⊎ Is (spans P X u r o) → Is (paired P W u r)
      go (inl k) = and_r (bit W.ops o) _ k
      go (inr k) = never (and_l (bit X.ops o) _ k) q

  -- a group that fits together with another reaches
  pub fit_reaches : Is (reaches W X)
  unfolding reaches
  fit_reaches = test (eqb (less W.ops X.ops) 0) (or_l _) (λ e.
      let t = some-member (less W.ops X.ops) (mask_lt 64 (λ k. bit W.ops k && not (bit X.ops k))) (eqb-false (less W.ops X.ops) 0 e) in
      let k = sym (bit_mask 64 (λ k. bit W.ops k && not (bit X.ops k)) t.0 t.1) ∙ t.2 in
      let p = and_l (bit W.ops t.0) _ k in
      let q = not-true (bit X.ops t.0) (and_r (bit W.ops t.0) _ k) in
      or_r (eqb (less W.ops X.ops) 0) (and_in
      (subset_in X.users W.users λ u h. let s = B.by-user u h in and_l (bit W.users u) _ (pair-moves t.0 p q u s.0 s.1 s.2 s.3))
      (subset_in X.resources W.resources λ r h. let s = B.by-resource r h in and_l (bit W.resources r) _ (and_r (bit W.users s.0) _ (pair-moves t.0 p q s.0 r s.1 s.2 s.3)))))

  -- a user of the first only and a resource of the second only: some atom of both does not hold
  corner_apart : (u r : ℕ) → u < 64 → r < 64 → Is (bit W.users u) → bit X.users u ≡ false → Is (bit X.resources r) → bit W.resources r ≡ false → Is (atoms_hold P (joined W X).atoms u r) → ⊥
  unfolding spans cover_grants joined
  corner_apart u r bu br pu qu pr qr a =
      let lu = (A.by-user u pu).1 in
      let lr = (B.by-resource r pr).2 in
      let o = A.operation in
      let ju = bit_mask 64 (λ k. bit W.users k || bit X.users k) u bu ∙ or_l (bit X.users u) pu in
      let jr = bit_mask 64 (λ k. bit W.resources k || bit X.resources k) r br ∙ or_r (bit W.resources r) pr in
      go o.0 (or_out (spans P W u r o.0) (spans P X u r o.0)
      (sym (covers u r o.0 (record { user = lu; resource = lr; op = o.1 }))
      ∙ and_in (joined-op o.0 o.1 (or_l (bit X.ops o.0) o.2))
      (and_in (members_pass (P.side user) (L user) (attrs_of (P.side user) (own_at user l)) (bit (joined W X).users) u lu ju)
      (and_in (members_pass (P.side resource) (L resource) (attrs_of (P.side resource) (own_at resource l)) (bit (joined W X).resources) r lr jr) a))))
    where
      go : (o : ℕ) → Is (spans P W u r o) ⊎ Is (spans P X u r o) → ⊥
      go o (inl k) = never (and_l (bit W.resources r) _ (and_r (bit W.users u) _ (and_r (bit W.ops o) _ k))) qr
      go o (inr k) = never (and_l (bit X.users u) _ (and_r (bit X.ops o) _ k)) qu

module _ (F : Policy) (Z : Sized F) where
  fit_corner : (W X : Words) → Stands (setting_of F) W → Stands (setting_of F) X → Declared (setting_of F) W.atoms → (l : ℕ) → Is (pair_fits (setting_of F) W X l)
      → Is (corner_free (links_of F) (joined W X).atoms (less W.users X.users) (less X.resources W.resources))
  unfolding setting_of side_of
  fit_corner W X A B d l f = free_in (links_of F) (joined W X).atoms (less W.users X.users) (less X.resources W.resources) λ u r bu br h k j.
      let p = less-out W.users X.users u bu h in
      let q = less-out X.resources W.resources r br k in
      corner_apart (setting_of F) (roomy F Z) (lawful F) W X A B l f u r bu br p.0 p.1 q.0 q.1
      (sym (atoms-linked F Z (joined W X).atoms u r (declared-joined (setting_of F) W X d) (A.by-user u p.0).1 (B.by-resource r q.0).2) ∙ j)

  -- THE LAW: groups that fit a level together pass the tests
  pub fit_joins : (W X : Words) → Stands (setting_of F) W → Stands (setting_of F) X → Declared (setting_of F) W.atoms → Declared (setting_of F) X.atoms → (l : ℕ) → Is (pair_fits (setting_of F) W X l) → Is (may_join (links_of F) W X)
  unfolding may_join corners_free
  fit_joins W X A B d e l f =
      let g = sym (fits-turned (setting_of F) W X l) ∙ f in
      and_in (and_in (fit_reaches (setting_of F) (roomy F Z) (lawful F) W X A B l f) (fit_reaches (setting_of F) (roomy F Z) (lawful F) X W B A l g))
      (and_in (fit_corner W X A B d l f) (rw (joined-turned W X) (fit_corner X W B A e l g)))

-- ---- sets of triples

-- a pair of a set of triples that fits level 3 is one of its words
words-paired : (P : Setting) → Roomy P → Lawful P → (B : Block) → Is (fits P B 3) → (u r : ℕ) → u < (P.side user).count → r < (P.side resource).count → Is (pair_in P B u r) → Is (paired P (words_of P B) u r)
unfolding spans
words-paired P Z L B f u r lu lr h =
    let t = pair-out P B u r h in
    and_r (bit (words_of P B).ops t.0) _ (sym (spans-own P Z L B f u r t.0 (record { user = lu; resource = lr; op = t.1 })) ∙ t.2)

-- in the words of a set of triples that is not empty and fits level 3 everybody stands in a pair
pub words_stand : (P : Setting) → Roomy P → Lawful P → (B : Block) → NotEmpty P B → Is (fits P B 3) → Stands P (words_of P B)
unfolding words_of
words_stand P Z L B s f = record {
  by-user = λ u h.
      let k = sym (bit-mask_of (P.side user).count (stands_in P B user) u) ∙ h in
      let lu = ltb-true u (P.side user).count (and_l (ltb u (P.side user).count) _ k) in
      let t = stands-out P B user u lu (and_r (ltb u (P.side user).count) _ k) in
      (t.1, lu, t.3, subst (λ (x : ℕ). Is (paired P (words_of P B) x t.1)) t.5 (words-paired P Z L B f t.0 t.1 t.2 t.3 t.4));
  by-resource = λ r h.
      let k = sym (bit-mask_of (P.side resource).count (stands_in P B resource) r) ∙ h in
      let lr = ltb-true r (P.side resource).count (and_l (ltb r (P.side resource).count) _ k) in
      let t = stands-out P B resource r lr (and_r (ltb r (P.side resource).count) _ k) in
      (t.0, t.2, lr, subst (λ (x : ℕ). Is (paired P (words_of P B) t.0 x)) t.5 (words-paired P Z L B f t.0 t.1 t.2 t.3 t.4));
  operation = (s.o, s.triple.op, bit_mask P.slots (op_in P B) s.o s.triple.op ∙ op-in P B s.triple s.inside);
  within = λ o h. ltb-true o P.slots (and_l (ltb o P.slots) _ (sym (bit-mask_of P.slots (op_in P B) o) ∙ h));
}

-- two sets of triples that fit a level together pass the tests
pub blocks_join : (F : Policy) → Sized F → (A B : Block) → NotEmpty (setting_of F) A → NotEmpty (setting_of F) B → Is (fits (setting_of F) A 3) → Is (fits (setting_of F) B 3) → (l : ℕ) → Is (fits (setting_of F) (together A B) l)
    → Is (may_join (links_of F) (words_of (setting_of F) A) (words_of (setting_of F) B))
blocks_join F Z A B a b f g l h =
    fit_joins F Z (words_of (setting_of F) A) (words_of (setting_of F) B) (words_stand (setting_of F) (roomy F Z) (lawful F) A a f) (words_stand (setting_of F) (roomy F Z) (lawful F) B b g)
    (words-declared (setting_of F) A) (words-declared (setting_of F) B) l (sym (fits-words (setting_of F) (roomy F Z) (lawful F) A B f g l) ∙ h)
