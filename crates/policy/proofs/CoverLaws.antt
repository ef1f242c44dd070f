-- The covering rule of a set of triples at a level, and why it is the least.
-- Assumes nothing.
use Rattle.std.specs.Prelude.{ℕ, ◌<◌, ltb, List, ◌++◌, ◌⊎◌, ◌≡◌, refl}
use Rattle.std.proofs.Common.{ltb-true, inl, inr, sym, ◌∙◌}
use mathlib.Core.List.Memᴰ
use Rattle.policy.specs.Covering.{all_know, values_of, op_in, pair_in, stands_in, everywhere, conjuncts, atom_conds, cover, fits}
use Rattle.policy.proofs.RuleLaws.{Lawful, grants_in, grants-op, grants-cond, same_in, same_out}
use Rattle.policy.specs.Rules.{Which, by, Setting, Cond, Rule, Block, attrs_of, own_at, holds, grants, allowed, at, Triple, Within, Same, user, resource, conjunct, atom}
use Rattle.policy.proofs.SideLaws.{AllMeet, side-known, side-self, side-least}
use Rattle.sets.specs.SetLaws.{bit_mask}
use Rattle.sets.specs.Tests.{Is, imp, ◌is_in◌, all, any, each, only, up_to}
use Rattle.sets.specs.TestLaws.{and_l, and_r, same, imp_in, imp-out, all-out, all_in, any_in, any_out, each_in, each-out, only_in, only_out, up_to_in, up_to-out, elem_out}

module _ (P : Setting) where
  -- ---- what these tests say

  pub pair-in : (B : Block) {u r o : ℕ} → o < P.slots → Is (B u r o) → Is (pair_in P B u r)
  unfolding pair_in
  pair-in B {u} {r} l h = any_in (λ o. B u r o) (up_to_in l) h

  pub pair-out : (B : Block) (u r : ℕ) → Is (pair_in P B u r) → (o : ℕ) × (o < P.slots) × Is (B u r o)
  unfolding pair_in
  pair-out B u r h = let t = any_out (λ o. B u r o) _ h in (t.0, up_to-out _ t.1, t.2)

  pub stands-in : (B : Block) (w : Which) {u r : ℕ} → u < (P.side user).count → r < (P.side resource).count → Is (pair_in P B u r) → Is (stands_in P B w (by w u r))
  unfolding stands_in
  stands-in B user {u} {r} lu lr h = any_in (λ r. pair_in P B u r) (up_to_in lr) h
  stands-in B resource {u} {r} lu lr h = any_in (λ u. pair_in P B u r) (up_to_in lu) h

  -- who stands in B shares a triple of it with somebody of the other side
  pub stands-out : (B : Block) (w : Which) (x : ℕ) → x < (P.side w).count → Is (stands_in P B w x) → (u r : ℕ) × (u < (P.side user).count) × (r < (P.side resource).count) × Is (pair_in P B u r) × (by w u r ≡ x)
  unfolding stands_in
  stands-out B user u l h = let t = any_out (λ r. pair_in P B u r) _ h in (u, t.0, l, up_to-out _ t.1, t.2, refl)
  stands-out B resource r l h = let t = any_out (λ u. pair_in P B u r) _ h in (t.0, r, up_to-out _ t.1, l, t.2, refl)

  pub op-in : (B : Block) {u r o : ℕ} → Triple P u r o → Is (B u r o) → Is (op_in P B o)
  unfolding op_in
  op-in B {u} {r} {o} t h = any_in (λ u. any (λ r. B u r o) (up_to (P.side resource).count)) (up_to_in t.user) (any_in (λ r. B u r o) (up_to_in t.resource) h)

  pub op-out : (B : Block) (o : ℕ) → Is (op_in P B o) → (u r : ℕ) × (u < (P.side user).count) × (r < (P.side resource).count) × Is (B u r o)
  unfolding op_in
  op-out B o h =
      let t = any_out (λ u. any (λ r. B u r o) (up_to (P.side resource).count)) _ h in
      let s = any_out (λ r. B t.0 r o) _ t.2 in
      (t.0, s.0, up_to-out _ t.1, up_to-out _ s.1, s.2)

  -- a condition holds of every user and resource that share a triple of B
  abbrev pub Everywhere : Block → Cond → Type 0
  Everywhere B c = (u r : ℕ) → u < (P.side user).count → r < (P.side resource).count → Is (pair_in P B u r) → Is (holds P c u r)

  pub everywhere_in : (B : Block) (c : Cond) → Everywhere B c → Is (everywhere P B c)
  unfolding everywhere
  everywhere_in B c h = all_in _ _ λ u mu. all_in _ _ λ r mr. imp_in (pair_in P B u r) (holds P c u r) (h u r (up_to-out _ mu) (up_to-out _ mr))

  pub everywhere-out : (B : Block) (c : Cond) → Is (everywhere P B c) → Everywhere B c
  unfolding everywhere
  everywhere-out B c h u r lu lr =
      imp-out (holds P c u r)
      (all-out (λ r. imp (pair_in P B u r) (holds P c u r)) (all-out (λ u. all (λ r. imp (pair_in P B u r) (holds P c u r)) (up_to (P.side resource).count)) h (up_to_in lu)) (up_to_in lr))

  -- the conditions of a covering rule
  pub conjuncts-in : (B : Block) (l : ℕ) (w : Which) {a : ℕ} → a is_in attrs_of (P.side w) (own_at w l) → Is (all_know (P.side w) (stands_in P B w) a) → conjunct w a (values_of (P.side w) (stands_in P B w) a) is_in conjuncts P B l w
  unfolding conjuncts
  conjuncts-in B l w {a} m h = each_in (λ a. only (all_know (P.side w) (stands_in P B w) a) (conjunct w a (values_of (P.side w) (stands_in P B w) a))) m (only_in _ h)

  pub conjuncts-out : (B : Block) (l : ℕ) (w : Which) {c : Cond} → c is_in conjuncts P B l w → (a : ℕ) × (a is_in attrs_of (P.side w) (own_at w l)) × Is (all_know (P.side w) (stands_in P B w) a) × (c ≡ conjunct w a (values_of (P.side w) (stands_in P B w) a))
  unfolding conjuncts
  conjuncts-out B l w m =
      let t = each-out (λ a. only (all_know (P.side w) (stands_in P B w) a) (conjunct w a (values_of (P.side w) (stands_in P B w) a))) _ m in
      let s = only_out (all_know (P.side w) (stands_in P B w) t.0) t.2 in
      (t.0, t.1, s.0, s.1)

  pub atom_conds_in : (B : Block) {a b : ℕ} → a < (P.side user).attrs → b < (P.side resource).attrs → Is (everywhere P B (atom a b)) → atom a b is_in atom_conds P B
  unfolding atom_conds
  atom_conds_in B {a} {b} la lb h =
      each_in (λ a. each (λ b. only (everywhere P B (atom a b)) (atom a b)) (up_to (P.side resource).attrs)) (up_to_in la)
      (each_in (λ b. only (everywhere P B (atom a b)) (atom a b)) (up_to_in lb) (only_in _ h))

  pub atom_conds-out : (B : Block) {c : Cond} → c is_in atom_conds P B → (a b : ℕ) × (a < (P.side user).attrs) × (b < (P.side resource).attrs) × Is (everywhere P B (atom a b)) × (c ≡ atom a b)
  unfolding atom_conds
  atom_conds-out B m =
      let t = each-out (λ a. each (λ b. only (everywhere P B (atom a b)) (atom a b)) (up_to (P.side resource).attrs)) _ m in
      let s = each-out (λ b. only (everywhere P B (atom t.0 b)) (atom t.0 b)) _ t.2 in
      let k = only_out (everywhere P B (atom t.0 s.0)) s.2 in
      (t.0, s.0, up_to-out _ t.1, up_to-out _ s.1, k.0, k.1)

  -- a condition of a covering rule is a conjunct of one side or an atom
  pub cover_cases : (B : Block) (l : ℕ) {c : Cond} → c is_in (cover P B l).conds → ((w : Which) × (c is_in conjuncts P B l w)) ⊎ (c is_in atom_conds P B)
  unfolding cover
  cover_cases B l {c} m = go (Memᴰ.append_cases (conjuncts P B l user ++ conjuncts P B l resource) m)
    where
      side : (c is_in conjuncts P B l user) ⊎ (c is_in conjuncts P B l resource) → (w : Which) × (c is_in conjuncts P B l w)
      side (inl k) = (user, k)
      side (inr k) = (resource, k)

      go : (c is_in (conjuncts P B l user ++ conjuncts P B l resource)) ⊎ (c is_in atom_conds P B) → ((w : Which) × (c is_in conjuncts P B l w)) ⊎ (c is_in atom_conds P B)
      go (inl k) = inl (side (Memᴰ.append_cases (conjuncts P B l user) k))
      go (inr k) = inr k

  pub cover-conjunct : (B : Block) (l : ℕ) (w : Which) {c : Cond} → c is_in conjuncts P B l w → c is_in (cover P B l).conds
  unfolding cover
  cover-conjunct B l user m = Memᴰ.append_left _ (Memᴰ.append_left _ m)
  cover-conjunct B l resource m = Memᴰ.append_left _ (Memᴰ.append_right (conjuncts P B l user) m)

  -- a conjunct that holds everywhere in B is met by all who stand in it
  all_meet : (B : Block) (w : Which) (a : ℕ) (vs : List ℕ) → Everywhere B (conjunct w a vs) → AllMeet (P.side w) (stands_in P B w) a vs
  unfolding holds
  all_meet B w a vs h x lx p = let t = stands-out B w x lx p in rw (← t.5) (h t.0 t.1 t.2 t.3 t.4)

  module _ (L : Lawful P) where
    -- every condition of the covering rule holds everywhere in B
    pub cover-holds : (B : Block) (l : ℕ) (c : Cond) → c is_in (cover P B l).conds → Everywhere B c
    unfolding holds
    cover-holds B l c m u r lu lr p = go (cover_cases B l m)
      where
        place : (w : Which) → by w u r < (P.side w).count
        place user = lu
        place resource = lr

        go : ((w : Which) × (c is_in conjuncts P B l w)) ⊎ (c is_in atom_conds P B) → Is (holds P c u r)
        go (inl k) =
            let w = k.0 in
            let t = conjuncts-out B l w k.1 in
            rw t.3 (side-self (P.side w) (L w) (stands_in P B w) t.0 t.2 (by w u r) (place w) (stands-in B w lu lr p))
        go (inr k) = let t = atom_conds-out B k in rw t.5 (everywhere-out B (atom t.0 t.1) t.4 u r lu lr p)

    -- B lies within what its covering rule grants
    pub cover-grants : (B : Block) (l : ℕ) → Within P B (grants P (cover P B l))
    unfolding cover
    cover-grants B l u r o t h = grants_in P (cover P B l) u r o (bit_mask P.slots (op_in P B) o t.op ∙ op-in B t h) λ c m. cover-holds B l c m u r t.user t.resource (pair-in B t.op h)

    -- a condition of the level that holds everywhere in B holds wherever the covering rule's conditions do
    pub cover-least : (B : Block) (l : ℕ) (c : Cond) → Is (allowed P l c) → Everywhere B c → (u r : ℕ) → ((d : Cond) → d is_in (cover P B l).conds → Is (holds P d u r)) → Is (holds P c u r)
    unfolding cover allowed holds
    cover-least B l (conjunct w a vs) q h u r k =
        let m = all_meet B w a vs h in
        side-least (P.side w) (L w) (stands_in P B w) a vs m (by w u r)
        (k _ (cover-conjunct B l w (conjuncts-in B l w (elem_out a _ q) (side-known (P.side w) (stands_in P B w) a vs m))))
    cover-least B l (atom a b) q h u r k =
        k (atom a b) (Memᴰ.append_right (conjuncts P B l user ++ conjuncts P B l resource) (atom_conds_in B (ltb-true a _ (and_l _ _ q)) (ltb-true b _ (and_r (ltb a (P.side user).attrs) _ q)) (everywhere_in B (atom a b) h)))

    -- THE LAW: a rule of the level that grants all of B grants all that the covering rule does
    pub least : (B : Block) (l : ℕ) (ρ : Rule) → Is (at P l ρ) → Within P B (grants P ρ) → Within P (grants P (cover P B l)) (grants P ρ)
    unfolding at cover
    least B l ρ a w u r o t g =
        grants_in P ρ u r o
        (let s = op-out B o (sym (bit_mask P.slots (op_in P B) o t.op) ∙ grants-op P (cover P B l) u r o g) in
        grants-op P ρ s.0 s.1 o (w s.0 s.1 o (record { user = s.2; resource = s.3; op = t.op }) s.4))
        λ c m. cover-least B l c (all-out (allowed P l) a m)
        (λ v q lv lq p. let s = pair-out B v q p in grants-cond P ρ v q s.0 (w v q s.0 (record { user = lv; resource = lq; op = s.1 }) s.2) m)
        u r (λ d k. grants-cond P (cover P B l) u r o g k)

    -- what any rule of a level grants fits the level
    pub exact-fits : (B : Block) (l : ℕ) (ρ : Rule) → Is (at P l ρ) → Same P (grants P ρ) B → Is (fits P B l)
    unfolding fits
    exact-fits B l ρ a e =
        same_in P (grants P (cover P B l)) B λ u r o t.
        same (grants P (cover P B l) u r o) (B u r o)
        (λ g. rw (← e u r o t) (least B l ρ a (λ u r o t h. rw (e u r o t) h) u r o t g))
        (λ h. cover-grants B l u r o t h)

    pub fits-exact : (B : Block) (l : ℕ) → Is (fits P B l) → Same P (grants P (cover P B l)) B
    unfolding fits
    fits-exact B l h = same_out P (grants P (cover P B l)) B h
