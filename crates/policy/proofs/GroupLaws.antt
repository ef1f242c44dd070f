-- The groups that merging leaves, and what their rules come to.
-- Assumes nothing.
use Prim.Native.Nat.{ℕ, zero, suc, ◌+◌, ◌≤◌, ◌<◌, min, max}
use Rattle.std.proofs.Common.{eqb-true, eq-eqb, ne_eqb, inl, inr, ◌∙◌, add_assoc, add_comm, arith}
use Rattle.std.proofs.lemmas.Bool.{eqb-false}
use Rattle.std.specs.Prelude.{eqb, length, Bool, true, false, cond, ◌⊎◌, ◌≡◌}
use Rattle.std.proofs.Math.ListN.{get_or}
use Rattle.std.proofs.Math.Bool.{◌||◌, or_assoc, or_comm, or-false}
use mathlib.Core.List.Memᴰ
use mathlib.Core.List.{List, [], ◌∷◌, ◌++◌}
use Rattle.std.proofs.Math.Path.{refl, sym, ap, ap₂, fun_ext}
use Rattle.policy.proofs.CoverLaws.{exact-fits}
use Rattle.policy.specs.Covering.{fits, level_of}
use Rattle.policy.proofs.MergeLaws.{total, Every, Runs, runs_apart, runs_count, runs_total, runs_every, runs_ascending, apart-at}
use Rattle.policy.specs.Merging.{start_groups, union, mergeable, low_part}
use Rattle.policy.proofs.RuleLaws.{Lawful}
use Rattle.policy.specs.Rules.{Setting, Rule, Block, grants, at, rule_level, NotEmpty, Same}
use Rattle.policy.proofs.ThinLaws.{written-exact, fits-same, written-level}
use Rattle.policy.specs.Thinning.{written}
use Rattle.sets.specs.LowestLaws.{lowest-most, lowest-passes, lowest-some}
use Rattle.sets.specs.Sorted.{Ascending, none_left, and-then}
use Rattle.sets.specs.TestLaws.{or_l, never, test, same, any_in, any_out, from_out, up_to_in, up_to-out, map-out, get_d_in}
use Rattle.sets.specs.Tests.{Is, ◌is_in◌, any, from, up_to}

-- how often a part stands in a group
abbrev pub times : ℕ → List ℕ → ℕ
times p [] = 0
times p (q ∷ t) = cond (eqb p q) 1 0 + times p t

pub times-append : (p : ℕ) (g h : List ℕ) → times p (g ++ h) ≡ times p g + times p h
times-append p [] h = omega arith
times-append p (q ∷ t) h = let e = times-append p t h in omega arith

pub times_in : (p : ℕ) {g : List ℕ} → p is_in g → 0 < times p g
times_in p (Memᴰ.head {x = q} e) = rw (eq-eqb p q e) (omega arith)
times_in p (Memᴰ.tail m) = let h = times_in p m in omega arith

pub times-out : (p : ℕ) (g : List ℕ) → 0 < times p g → p is_in g
times-out p [] h = absurd (omega arith)
times-out p (q ∷ t) h = go (eqb p q) refl (times-out p t) h
  where
    go : (b : Bool) → eqb p q ≡ b → (0 < times p t → p is_in t) → 0 < cond b 1 0 + times p t → p is_in (q ∷ t)
    go true e r h = Memᴰ.head (eqb-true p q e)
    go false e r h = Memᴰ.tail (r (omega arith))

low_part-most : (n : ℕ) (g : List ℕ) → low_part n g ≤ n
low_part-most n [] = omega arith
low_part-most n (p ∷ t) = let h = low_part-most n t in omega arith

pub low_part-append : (n : ℕ) (g h : List ℕ) → low_part n (g ++ h) ≡ min (low_part n g) (low_part n h)
low_part-append n [] h = let k = low_part-most n h in omega arith
low_part-append n (p ∷ t) h = let e = low_part-append n t h in omega arith

pub start-length : (k n : ℕ) → length (start_groups k n) ≡ n
start-length k zero = refl
start-length k (suc n) = ap suc (start-length (suc k) n)

start-before : (p k n : ℕ) → p < k → total ◌+◌ 0 (times p) (start_groups k n) ≡ 0
start-before p k zero h = refl
start-before p k (suc n) h = let e = start-before p (suc k) n (omega arith) in rw (ne_eqb p k (omega arith)) (omega arith)

start-count : (p k n : ℕ) → k ≤ p → p < k + n → total ◌+◌ 0 (times p) (start_groups k n) ≡ 1
start-count p k zero h l = absurd (omega arith)
start-count p k (suc n) h l =
    test (eqb p k)
    (λ e. let d = start-before p (suc k) n (let x = eqb-true p k e in omega arith) in rw e (omega arith))
    (λ e. let d = start-count p (suc k) n (let x = eqb-false p k e in omega arith) (omega arith) in rw e (omega arith))

start-after : (n x k m : ℕ) → x < k → k + m ≤ n → Every (λ h. x < low_part n h) (start_groups k m)
start-after n x k m l b g i =
    let t = map-out (λ p. p ∷ []) (from k m) i in
    let d = from_out k m t.1 in
    rw t.2 (omega arith)

start-ascending : (n k m : ℕ) → k + m ≤ n → Ascending (low_part n) (start_groups k m)
start-ascending n k zero h = none_left
start-ascending n k (suc m) h = and-then {x = k ∷ []} (λ g i. let e = start-after n k (suc k) m (omega arith) (omega arith) g i in omega arith) (start-ascending n (suc k) m (omega arith))

total-any : {A : Type 0} (f : A → Bool) (l : List A) → total ◌||◌ false f l ≡ any f l
total-any f [] = refl
total-any f (x ∷ xs) = ap (λ (b : Bool). f x || b) (total-any f xs)

module _ (P : Setting) (block : ℕ → Block) where
  union-append : (g h : List ℕ) (u r o : ℕ) → union P block (g ++ h) u r o ≡ (union P block g u r o || union P block h u r o)
  unfolding union
  union-append [] h u r o = refl
  union-append (p ∷ t) h u r o = ap (λ (b : Bool). block p u r o || b) (union-append t h u r o) ∙ sym (or_assoc (block p u r o) (any (λ p. block p u r o) t) (any (λ p. block p u r o) h))

  -- a group's block goes by its members, in any order
  pub union-same : (g h : List ℕ) → ((p : ℕ) → p is_in g → p is_in h) → ((p : ℕ) → p is_in h → p is_in g) → union P block g ≡ union P block h
  unfolding union
  union-same g h a b =
      fun_ext λ u. fun_ext λ r. fun_ext λ o.
      same (any (λ p. block p u r o) g) (any (λ p. block p u r o) h)
      (λ k. let t = any_out (λ p. block p u r o) g k in any_in (λ p. block p u r o) (a t.0 t.1) t.2)
      (λ k. let t = any_out (λ p. block p u r o) h k in any_in (λ p. block p u r o) (b t.0 t.1) t.2)

  union-one : (p u r o : ℕ) → union P block (p ∷ []) u r o ≡ block p u r o
  unfolding union
  union-one p u r o = or-false (block p u r o)

  start-union : (k n u r o : ℕ) → any (λ g. union P block g u r o) (start_groups k n) ≡ any (λ p. block p u r o) (from k n)
  start-union k zero u r o = refl
  start-union k (suc n) u r o = ap₂ ◌||◌ (union-one k u r o) (start-union (suc k) n u r o)

  -- the groups gs and the m merges of any run that begins with n parts, each a group by itself
  module _ (n : ℕ) (gs : List (List ℕ)) (m : ℕ) (mined : Runs (mergeable P block) ◌++◌ (start_groups 0 n) gs m) where
    -- parts = rules + merges
    pub parts-count : n ≡ length gs + m
    parts-count = let e = runs_count (mergeable P block) ◌++◌ mined in let d = start-length 0 n in omega arith

    -- every part stands in exactly one group, and there once
    pub part-once : (p : ℕ) → p < n → total ◌+◌ 0 (times p) gs ≡ 1
    part-once p h = sym (runs_total (mergeable P block) ◌++◌ ◌+◌ 0 add_assoc add_comm (times p) (times-append p) mined) ∙ start-count p 0 n (omega arith) (omega arith)

    -- and the groups have no other members
    pub groups-parts : Every (Every (λ p. p < n)) gs
    groups-parts = runs_every (mergeable P block) ◌++◌ (Every (λ p. p < n)) joined mined alone
      where
        joined : (g h : List ℕ) → Every (λ p. p < n) g → Every (λ p. p < n) h → Is (mergeable P block g h) → Every (λ p. p < n) (g ++ h)
        joined g h a b m p k = go (Memᴰ.append_cases g k)
          where
            go : (p is_in g) ⊎ (p is_in h) → p < n
            go (inl i) = a p i
            go (inr i) = b p i

        alone : Every (Every (λ p. p < n)) (start_groups 0 n)
        alone g m p k =
            let t = map-out (λ p. p ∷ []) (from 0 n) m in
            let e = member-one (rw t.2 at k) in
            rw e (up_to-out n t.1)
          where
            member-one : {q : ℕ} → p is_in (q ∷ []) → p ≡ q
            member-one (Memᴰ.head e) = e
            member-one (Memᴰ.tail m) = absurd (Memᴰ.not-nil m)

    -- the groups stand in the order of their lowest parts
    pub groups-ascending : Ascending (low_part n) gs
    groups-ascending = runs_ascending (mergeable P block) ◌++◌ (low_part n) (λ g h l. let e = low_part-append n g h in omega arith) mined (start-ascending n 0 n (omega arith))

    -- the groups' unions make up the union of all parts
    pub groups-union : (u r o : ℕ) → any (λ g. union P block g u r o) gs ≡ any (λ p. block p u r o) (up_to n)
    groups-union u r o =
        sym (total-any (λ g. union P block g u r o) gs)
        ∙ sym (runs_total (mergeable P block) ◌++◌ ◌||◌ false or_assoc or_comm (λ g. union P block g u r o) (λ g h. union-append g h u r o) mined)
        ∙ total-any (λ g. union P block g u r o) (start_groups 0 n)
        ∙ start-union 0 n u r o

    -- no group is empty of triples
    pub groups-some : ((p : ℕ) → p < n → NotEmpty P (block p)) → Every (λ g. NotEmpty P (union P block g)) gs
    groups-some h = runs_every (mergeable P block) ◌++◌ (λ g. NotEmpty P (union P block g)) joined mined first
      where
        joined : (g k : List ℕ) → NotEmpty P (union P block g) → NotEmpty P (union P block k) → Is (mergeable P block g k) → NotEmpty P (union P block (g ++ k))
        joined g k s _ _ = record { u = s.u; r = s.r; o = s.o; triple = s.triple; inside = union-append g k s.u s.r s.o ∙ or_l _ s.inside }

        first : Every (λ g. NotEmpty P (union P block g)) (start_groups 0 n)
        first g m =
            let t = map-out (λ p. p ∷ []) (from 0 n) m in
            let s = h t.0 (up_to-out n t.1) in
            rw t.2 (record { u = s.u; r = s.r; o = s.o; triple = s.triple; inside = union-one t.0 s.u s.r s.o ∙ s.inside })

    module _ (L : Lawful P) (part-fits : (p : ℕ) → p < n → Is (fits P (block p) 3)) where
      abbrev pub Fitting : List ℕ → Type 0
      Fitting g = Is (fits P (union P block g) (level_of P (union P block g)))

      joined-fits : (g h : List ℕ) → Is (mergeable P block g h) → Fitting (g ++ h)
      unfolding mergeable level_of
      joined-fits g h m =
          let top = suc (max (level_of P (union P block g)) (level_of P (union P block h))) in
          let t = any_out (fits P (union P block (g ++ h))) (up_to top) m in
          let b = up_to-out top t.1 in
          let c = lowest-most (fits P (union P block g)) in
          let d = lowest-most (fits P (union P block h)) in
          lowest-some (fits P (union P block (g ++ h))) t.0 (omega arith) t.2

      first_fits : (p : ℕ) → p < n → Fitting (p ∷ [])
      unfolding level_of
      first_fits p h = lowest-passes (fits P (union P block (p ∷ []))) (fits-same P L (block p) (union P block (p ∷ [])) 3 (λ u r o t. sym (union-one p u r o)) (part-fits p h))

      -- every group fits its level
      pub groups_fit : Every Fitting gs
      groups_fit = runs_every (mergeable P block) ◌++◌ Fitting joined mined first
        where
          joined : (g h : List ℕ) → Fitting g → Fitting h → Is (mergeable P block g h) → Fitting (g ++ h)
          joined g h p q m = joined-fits g h m

          first : Every Fitting (start_groups 0 n)
          first g m =
              let t = map-out (λ p. p ∷ []) (from 0 n) m in
              rw t.2 (first_fits t.0 (up_to-out n t.1))

      unfoldable pub rule : ℕ → Rule
      rule i = written P (union P block (get_or gs i []))

      -- a rule grants what its parts do
      pub rule-exact : (i : ℕ) → i < length gs → Same P (grants P (rule i)) (union P block (get_or gs i []))
      unfolding rule
      rule-exact i h = written-exact P L (union P block (get_or gs i [])) (groups_fit _ (get_d_in gs [] i h))

      -- no single rule, of a level no higher than the higher of theirs, grants what two rules grant together
      pub no_pair : (i j : ℕ) → i < j → j < length gs → (ρ : Rule) → Is (at P 3 ρ) → rule_level P ρ ≤ max (rule_level P (rule i)) (rule_level P (rule j))
          → Same P (grants P ρ) (λ u r o. grants P (rule i) u r o || grants P (rule j) u r o) → ⊥
      unfolding rule rule_level mergeable
      no_pair i j h l ρ a k e =
          let gi = get_or gs i [] in
          let gj = get_or gs j [] in
          let fi = groups_fit gi (get_d_in gs [] i (omega arith)) in
          let fj = groups_fit gj (get_d_in gs [] j l) in
          let li = written-level P L (union P block gi) fi in
          let lj = written-level P L (union P block gj) fj in
          let f = exact-fits P L (union P block (gi ++ gj)) (rule_level P ρ) ρ (lowest-passes (λ l. at P l ρ) a)
          (λ u r o t. e u r o t ∙ ap₂ ◌||◌ (rule-exact i (omega arith) u r o t) (rule-exact j l u r o t) ∙ sym (union-append gi gj u r o)) in
          never {b = mergeable P block gi gj} (any_in (fits P (union P block (gi ++ gj))) (up_to_in {n = suc (max (level_of P (union P block gi)) (level_of P (union P block gj)))} {i = rule_level P ρ} (omega arith)) f) (apart-at (mergeable P block) ◌++◌ [] (runs_apart (mergeable P block) ◌++◌ mined) i j h l)
