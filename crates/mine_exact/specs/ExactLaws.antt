-- When the covering rule of two groups grants just what they have. It grants at least that if their members pass; so it is enough to know
-- whether the rule with exactly their users and resources does, and that nobody who passes besides is joined with anything that passes.
-- Assumes nothing.
use Prim.Native.Nat.{ℕ, ◌+◌, ◌*◌, ◌^◌, ◌≤◌, ◌<◌}
use borrow.Author.Tests.{eqb-true, eqb-false, ltb-true, not-true}
use Rattle.std.proofs.Math.Dec.{eqb, ltb}
use Rattle.std.specs.Prelude.{get_or, Bool, true, false, ◌&&◌, ◌||◌, not, ◌⊎◌, ◌≡◌}
use mathlib.Core.List.{List}
use Rattle.std.proofs.Common.{inl, inr, ⊎_elim, ◌∙◌, arith}
use Rattle.std.proofs.Math.Option.{none}
use Rattle.std.proofs.Math.Path.{sym, ap, ap₂}
use Rattle.files.specs.Calls.{first}
use Rattle.grant_grids.specs.Grid.{differ_at, difference_of, is_same}
use Rattle.grant_grids.proofs.GridLaws.{triples-same, same_means}
use Rattle.policy.proofs.RuleLaws.{same_in, same_out}
use Rattle.policy.specs.Rules.{Setting, by, same_block}
use Rattle.sets.specs.MaskLaws.{mask_lt, bit-low}
use Rattle.sets.specs.Sets.{bit, subset, mask_of}
use Rattle.sets.specs.SetLaws.{bit-none, subset-out, subset-self, bit_mask}
use Rattle.sets.specs.Tests.{Is, imp, all, up_to}
use Rattle.sets.specs.TestLaws.{and_in, and_l, and_r, or_l, or_r, or_out, never, test, fails, same, imp_in, imp-out, all_in, all-out, up_to-out, not_in}
use Rattle.mine_theory.specs.Words.Words.{Words, joined}
use Rattle.mine_corners.specs.FitLaws.{row-bit}
use Rattle.mine_corners.specs.MayJoinLaws.{some-member, less-out, free_in, free-out}
use Rattle.mine_corners.specs.Pairing.{table_spans, covering, covered, grouped, first_beyond, covers_just, grants_exactly, less, corner_free, rim_free, reaches, corners_free, may_join}

-- ---- triple by triple

-- that many users, resources and operations
abbrev sizes : ℕ → ℕ → ℕ → Setting
sizes us rs os = record { side = λ w. record { count = by w us rs; attrs = 0; is_set = λ a. false; domain = λ a. 0; value = λ a x. none; below = λ a v x. false }; slots = os }

module _ (links : List ℕ) (W X : Words) (who what us rs os : ℕ) where
  just_means : covers_just links W X who what us rs os ≡ same_block (sizes us rs os) (covered links W X who what) (grouped links W X)
  unfolding first_beyond differ_at
  just_means =
      ap (λ (ts : List (ℕ × ℕ × ℕ)). is_same (difference_of (first (differ_at (covered links W X who what) (grouped links W X)) ts))) (sym (triples-same (sizes us rs os)))
      ∙ same_means (sizes us rs os) (covered links W X who what) (grouped links W X)

  just_in : ((u r o : ℕ) → u < us → r < rs → o < os → covered links W X who what u r o ≡ grouped links W X u r o) → Is (covers_just links W X who what us rs os)
  just_in h = just_means ∙ same_in (sizes us rs os) (covered links W X who what) (grouped links W X) (λ u r o t. h u r o t.user t.resource t.op)

  just_out : Is (covers_just links W X who what us rs os) → (u r o : ℕ) → u < us → r < rs → o < os → covered links W X who what u r o ≡ grouped links W X u r o
  just_out h u r o lu lr lo = same_out (sizes us rs os) (covered links W X who what) (grouped links W X) (sym just_means ∙ h) u r o (record { user = lu; resource = lr; op = lo })

-- these atoms join a user with a resource
abbrev joins : List ℕ → ℕ → ℕ → ℕ → Bool
joins links m u r = all (λ i. imp (bit m i) (bit (get_or links (64 * i + u) 0) r)) (up_to 36)

-- fewer atoms join more
joins_fewer : (links : List ℕ) (m n u r : ℕ) → ((i : ℕ) → i < 36 → Is (bit n i) → Is (bit m i)) → Is (joins links m u r) → Is (joins links n u r)
joins_fewer links m n u r h k =
    all_in (λ i. imp (bit n i) (bit (get_or links (64 * i + u) 0) r)) (up_to 36) λ i q. imp_in (bit n i) (bit (get_or links (64 * i + u) 0) r) λ b.
    imp-out (bit (get_or links (64 * i + u) 0) r) (all-out (λ i. imp (bit m i) (bit (get_or links (64 * i + u) 0) r)) k q) (h i (up_to-out 36 q) b)

-- a triple of a group
record Spanned (links : List ℕ) (W : Words) (u r o : ℕ) : Type 0 where
  pub operation : Is (bit W.ops o)
  pub user : Is (bit W.users u)
  pub resource : Is (bit W.resources r)
  pub joined_by : Is (joins links W.atoms u r)

spans_in : (links : List ℕ) (W : Words) (u r o : ℕ) → r < 64 → Spanned links W u r o → Is (table_spans links W u r o)
unfolding table_spans
spans_in links W u r o l t = and_in t.operation (row-bit links W.atoms W.users W.resources u r l ∙ and_in t.user (and_in t.resource t.joined_by))

spans-out : (links : List ℕ) (W : Words) (u r o : ℕ) → r < 64 → Is (table_spans links W u r o) → Spanned links W u r o
unfolding table_spans
spans-out links W u r o l h =
    let k = sym (row-bit links W.atoms W.users W.resources u r l) ∙ and_r (bit W.ops o) _ h in
    let j = and_r (bit W.users u) _ k in
    record { operation = and_l (bit W.ops o) _ h; user = and_l (bit W.users u) _ k; resource = and_l (bit W.resources r) _ j; joined_by = and_r (bit W.resources r) _ j }

-- ---- what is in both together

union_in : (a b k : ℕ) → k < 64 → Is (bit a k) ⊎ Is (bit b k) → Is (bit (mask_of 64 (λ k. bit a k || bit b k)) k)
union_in a b k l h = bit_mask 64 (λ k. bit a k || bit b k) k l ∙ ⊎_elim (or_l (bit b k)) (or_r (bit a k)) h

union-out : (a b k : ℕ) → k < 64 → Is (bit (mask_of 64 (λ k. bit a k || bit b k)) k) → Is (bit a k) ⊎ Is (bit b k)
union-out a b k l h = or_out (bit a k) (bit b k) (sym (bit_mask 64 (λ k. bit a k || bit b k) k l) ∙ h)

less_in : (a b k : ℕ) → k < 64 → Is (bit a k) → bit b k ≡ false → Is (bit (less a b) k)
less_in a b k l p q = bit_mask 64 (λ k. bit a k && not (bit b k)) k l ∙ and_in p (not_in (bit b k) q)

meet_out : (a b k : ℕ) → k < 64 → Is (bit (mask_of 64 (λ k. bit a k && bit b k)) k) → Is (bit a k) × Is (bit b k)
meet_out a b k l h = let q = sym (bit_mask 64 (λ k. bit a k && bit b k) k l) ∙ h in (and_l (bit a k) _ q, and_r (bit a k) _ q)

module _ (links : List ℕ) (W X : Words) (who what : ℕ) where
  -- the covering rule grants what the two groups have if their members pass
  groups-covered : Is (subset (joined W X).users who) → Is (subset (joined W X).resources what) → (u r o : ℕ) → u < 64 → r < 64 → o < 64 → Is (grouped links W X u r o) → Is (covered links W X who what u r o)
  unfolding covering joined
  groups-covered p q u r o lu lr lo h = spans_in links (covering W X who what) u r o lr (⊎_elim
      (λ k. let t = spans-out links W u r o lr k in record {
        operation = union_in W.ops X.ops o lo (inl t.operation);
        user = subset-out (joined W X).users who p u (union_in W.users X.users u lu (inl t.user));
        resource = subset-out (joined W X).resources what q r (union_in W.resources X.resources r lr (inl t.resource));
        joined_by = joins_fewer links W.atoms (joined W X).atoms u r (λ i l b. (meet_out W.atoms X.atoms i (omega arith) b).0) t.joined_by;
      })
      (λ k. let t = spans-out links X u r o lr k in record {
        operation = union_in W.ops X.ops o lo (inr t.operation);
        user = subset-out (joined W X).users who p u (union_in W.users X.users u lu (inr t.user));
        resource = subset-out (joined W X).resources what q r (union_in W.resources X.resources r lr (inr t.resource));
        joined_by = joins_fewer links X.atoms (joined W X).atoms u r (λ i l b. (meet_out W.atoms X.atoms i (omega arith) b).1) t.joined_by;
      })
      (or_out (table_spans links W u r o) (table_spans links X u r o) h))

  -- and what the rule with exactly their users and resources does
  exactly_covered : Is (subset (joined W X).users who) → Is (subset (joined W X).resources what) → (u r o : ℕ) → r < 64
      → Is (covered links W X (joined W X).users (joined W X).resources u r o) → Is (covered links W X who what u r o)
  unfolding covering
  exactly_covered p q u r o lr h =
      let t = spans-out links (covering W X (joined W X).users (joined W X).resources) u r o lr h in
      spans_in links (covering W X who what) u r o lr (record {
        operation = t.operation;
        user = subset-out (joined W X).users who p u t.user;
        resource = subset-out (joined W X).resources what q r t.resource;
        joined_by = t.joined_by;
      })

-- a triple of the two groups is of their users and resources
grouped-within : (links : List ℕ) (W X : Words) (u r o : ℕ) → u < 64 → r < 64 → o < 64 → Is (grouped links W X u r o) → Is (bit (joined W X).users u) × Is (bit (joined W X).resources r)
unfolding covering
grouped-within links W X u r o lu lr lo h =
    let t = spans-out links (covering W X (joined W X).users (joined W X).resources) u r o lr
    (groups-covered links W X (joined W X).users (joined W X).resources (subset-self (joined W X).users) (subset-self (joined W X).resources) u r o lu lr lo h) in
    (t.user, t.resource)

-- ---- who passes besides

module _ (links : List ℕ) (W X : Words) (who what us rs os : ℕ) (mu : us ≤ 64) (mr : rs ≤ 64) (mo : os ≤ 64) (bu : who < 2 ^ us) (br : what < 2 ^ rs)
    (p : Is (subset (joined W X).users who)) (q : Is (subset (joined W X).resources what)) where
  just_exactly : Is (covers_just links W X who what us rs os) → Is (grants_exactly links W X us rs os)
  unfolding grants_exactly
  just_exactly h = just_in links W X (joined W X).users (joined W X).resources us rs os λ u r o lu lr lo.
      same (covered links W X (joined W X).users (joined W X).resources u r o) (grouped links W X u r o)
      (λ k. sym (just_out links W X who what us rs os h u r o lu lr lo) ∙ exactly_covered links W X who what p q u r o (omega arith) k)
      (λ k. groups-covered links W X (joined W X).users (joined W X).resources (subset-self (joined W X).users) (subset-self (joined W X).resources) u r o (omega arith) (omega arith) (omega arith) k)

  -- who and what passes and is joined is a user and a resource of the groups
  passers_own : (o : ℕ) → o < os → Is (bit (joined W X).ops o) → Is (covers_just links W X who what us rs os) → (u r : ℕ) → Is (bit who u) → Is (bit what r) → Is (joins links (joined W X).atoms u r)
      → Is (bit (joined W X).users u) × Is (bit (joined W X).resources r)
  unfolding covering
  passers_own o lo b h u r pu pr k =
      let lu = bit-low us who u bu pu in
      let lr = bit-low rs what r br pr in
      grouped-within links W X u r o (omega arith) (omega arith) (omega arith)
      (sym (just_out links W X who what us rs os h u r o lu lr lo)
      ∙ spans_in links (covering W X who what) u r o (omega arith) (record { operation = b; user = pu; resource = pr; joined_by = k }))

  just_rim : (o : ℕ) → o < os → Is (bit (joined W X).ops o) → Is (covers_just links W X who what us rs os) → Is (rim_free links (joined W X).atoms (joined W X).users (joined W X).resources who what)
  unfolding rim_free
  just_rim o lo b h = and_in
      (free_in links (joined W X).atoms (joined W X).users (less what (joined W X).resources) λ u r lu lr pu pr k.
      let t = less-out what (joined W X).resources r lr pr in
      never (passers_own o lo b h u r (subset-out (joined W X).users who p u pu) t.0 k).1 t.1)
      (free_in links (joined W X).atoms (less who (joined W X).users) what λ u r lu lr pu pr k.
      let t = less-out who (joined W X).users u lu pu in
      never (passers_own o lo b h u r t.0 pr k).0 t.1)

  rim_just : Is (grants_exactly links W X us rs os) → Is (rim_free links (joined W X).atoms (joined W X).users (joined W X).resources who what) → Is (covers_just links W X who what us rs os)
  unfolding grants_exactly rim_free covering
  rim_just e f = just_in links W X who what us rs os λ u r o lu lr lo.
      same (covered links W X who what u r o) (grouped links W X u r o)
      (λ k. let t = spans-out links (covering W X who what) u r o (omega arith) k in
      test (bit (joined W X).users u)
      (λ pu. test (bit (joined W X).resources r)
      (λ pr. sym (just_out links W X (joined W X).users (joined W X).resources us rs os e u r o lu lr lo)
      ∙ spans_in links (covering W X (joined W X).users (joined W X).resources) u r o (omega arith) (record { operation = t.operation; user = pu; resource = pr; joined_by = t.joined_by }))
      (λ pr. absurd (free-out links (joined W X).atoms (joined W X).users (less what (joined W X).resources) (and_l (corner_free links (joined W X).atoms (joined W X).users (less what (joined W X).resources)) _ f) u r (omega arith) (omega arith)
      pu (less_in what (joined W X).resources r (omega arith) t.resource pr) t.joined_by)))
      (λ pu. absurd (free-out links (joined W X).atoms (less who (joined W X).users) what (and_r (corner_free links (joined W X).atoms (joined W X).users (less what (joined W X).resources)) _ f) u r (omega arith) (omega arith)
      (less_in who (joined W X).users u (omega arith) t.user pu) t.resource t.joined_by)))
      (groups-covered links W X who what p q u r o (omega arith) (omega arith) (omega arith))

  -- THE LAW: the groups are granted exactly, and nobody besides is joined
  rim_law : (o : ℕ) → o < os → Is (bit (joined W X).ops o) → covers_just links W X who what us rs os ≡ (grants_exactly links W X us rs os && rim_free links (joined W X).atoms (joined W X).users (joined W X).resources who what)
  rim_law o lo b =
      same (covers_just links W X who what us rs os) (grants_exactly links W X us rs os && rim_free links (joined W X).atoms (joined W X).users (joined W X).resources who what)
      (λ h. and_in (just_exactly h) (just_rim o lo b h)) (λ h. rim_just (and_l (grants_exactly links W X us rs os) _ h) (and_r (grants_exactly links W X us rs os) _ h))

-- ---- groups that may become one

module _ (links : List ℕ) (W X : Words) where
  -- a group reaches the other at an operation that the other lacks
  reaches-out : Is (reaches W X) → (o : ℕ) → o < 64 → Is (bit W.ops o) → bit X.ops o ≡ false → Is (subset X.users W.users) × Is (subset X.resources W.resources)
  unfolding reaches
  reaches-out h o l p q = go (or_out (eqb (less W.ops X.ops) 0) (subset X.users W.users && subset X.resources W.resources) h)
    where
      go : Is (eqb (less W.ops X.ops) 0) ⊎ Is (subset X.users W.users && subset X.resources W.resources) → Is (subset X.users W.users) × Is (subset X.resources W.resources)
      go (inl z) = never (less_in W.ops X.ops o l p q) (ap (λ (m : ℕ). bit m o) (eqb-true (less W.ops X.ops) 0 z) ∙ bit-none o)
      go (inr k) = (and_l (subset X.users W.users) _ k, and_r (subset X.users W.users) _ k)

-- not both, and the one
not_second : (a b : Bool) → (a && b) ≡ false → Is a → b ≡ false
not_second a b h p = fails b (λ q. never (and_in p q) h)

not_first : (a b : Bool) → (a && b) ≡ false → Is b → a ≡ false
not_first a b h q = fails a (λ p. never (and_in p q) h)

-- of two the other
the_second : {a b : Bool} → Is a ⊎ Is b → a ≡ false → Is b
the_second (inl p) e = never p e
the_second (inr q) e = q

the_first : {a b : Bool} → Is a ⊎ Is b → b ≡ false → Is a
the_first (inl p) e = p
the_first (inr q) e = never q e

-- of whom that is so, all atoms of the first set are of the second
abbrev pub Keeps : Bool → ℕ → ℕ → Type 0
Keeps b m n = Is b → (i : ℕ) → Is (bit m i) → Is (bit n i)

module _ (links : List ℕ) (W X : Words) (j : Is (may_join links W X)) where
  reach : Is (reaches W X) × Is (reaches X W)
  unfolding may_join
  reach = let k = and_l (reaches W X && reaches X W) _ j in (and_l (reaches W X) _ k, and_r (reaches W X) _ k)

  corners : Is (corner_free links (joined W X).atoms (less W.users X.users) (less X.resources W.resources))
      × Is (corner_free links (joined W X).atoms (less X.users W.users) (less W.resources X.resources))
  unfolding may_join corners_free
  corners = let k = and_r (reaches W X && reaches X W) _ j in
      (and_l (corner_free links (joined W X).atoms (less W.users X.users) (less X.resources W.resources)) _ k, and_r (corner_free links (joined W X).atoms (less W.users X.users) (less X.resources W.resources)) _ k)

  covered-grouped : (u r o : ℕ) → u < 64 → r < 64 → o < 64 → Keeps (bit W.users u) W.atoms X.atoms → Keeps (bit X.users u) X.atoms W.atoms
      → Is (covered links W X (joined W X).users (joined W X).resources u r o) → Is (grouped links W X u r o)
  unfolding covering joined
  covered-grouped u r o lu lr lo f s h = test (bit W.ops o)
      (λ w. test (bit X.ops o) (λ x. shared w x) (λ x. let n = reaches-out links W X reach.0 o lo w x in
      first w (⊎_elim (λ k. k) (subset-out X.users W.users n.0 u) people) (⊎_elim (λ k. k) (subset-out X.resources W.resources n.1 r) things)))
      (λ w. let x = the_second (union-out W.ops X.ops o lo t.operation) w in let n = reaches-out links X W reach.1 o lo x w in
      second x (⊎_elim (subset-out W.users X.users n.0 u) (λ k. k) people) (⊎_elim (subset-out W.resources X.resources n.1 r) (λ k. k) things))
    where
      t : Spanned links (covering W X (joined W X).users (joined W X).resources) u r o
      t = spans-out links (covering W X (joined W X).users (joined W X).resources) u r o lr h

      people : Is (bit W.users u) ⊎ Is (bit X.users u)
      people = union-out W.users X.users u lu t.user

      things : Is (bit W.resources r) ⊎ Is (bit X.resources r)
      things = union-out W.resources X.resources r lr t.resource

      first : Is (bit W.ops o) → Is (bit W.users u) → Is (bit W.resources r) → Is (grouped links W X u r o)
      first a b c = or_l (table_spans links X u r o) (spans_in links W u r o lr (record {
        operation = a;
        user = b;
        resource = c;
        joined_by = joins_fewer links (joined W X).atoms W.atoms u r (λ i l k. bit_mask 64 (λ k. bit W.atoms k && bit X.atoms k) i (omega arith) ∙ and_in k (f b i k)) t.joined_by;
      }))

      second : Is (bit X.ops o) → Is (bit X.users u) → Is (bit X.resources r) → Is (grouped links W X u r o)
      second a b c = or_r (table_spans links W u r o) (spans_in links X u r o lr (record {
        operation = a;
        user = b;
        resource = c;
        joined_by = joins_fewer links (joined W X).atoms X.atoms u r (λ i l k. bit_mask 64 (λ k. bit W.atoms k && bit X.atoms k) i (omega arith) ∙ and_in (s b i k) k) t.joined_by;
      }))

      -- a user of the one only and a resource of the other only would stand in a corner
      apart : (bit W.users u && bit W.resources r) ≡ false → (bit X.users u && bit X.resources r) ≡ false → ⊥
      apart p q = ⊎_elim
          (λ a. let c = not_second (bit W.users u) (bit W.resources r) p a in
          let d = the_second things c in
          free-out links (joined W X).atoms (less W.users X.users) (less X.resources W.resources) corners.0 u r lu lr
          (less_in W.users X.users u lu a (not_first (bit X.users u) (bit X.resources r) q d)) (less_in X.resources W.resources r lr d c) t.joined_by)
          (λ b. let d = not_second (bit X.users u) (bit X.resources r) q b in
          let c = the_first things d in
          free-out links (joined W X).atoms (less X.users W.users) (less W.resources X.resources) corners.1 u r lu lr
          (less_in X.users W.users u lu b (not_first (bit W.users u) (bit W.resources r) p c)) (less_in W.resources X.resources r lr c d) t.joined_by)
          people

      shared : Is (bit W.ops o) → Is (bit X.ops o) → Is (grouped links W X u r o)
      shared w x = test (bit W.users u && bit W.resources r)
          (λ p. first w (and_l (bit W.users u) _ p) (and_r (bit W.users u) _ p))
          (λ p. test (bit X.users u && bit X.resources r)
          (λ q. second x (and_l (bit X.users u) _ q) (and_r (bit X.users u) _ q))
          (λ q. absurd (apart p q)))

  -- THE LAW: each user of groups that may become one whose atoms are all in the atoms of both is granted exactly
  pub user_exactly : (u r o : ℕ) → u < 64 → r < 64 → o < 64 → Keeps (bit W.users u) W.atoms X.atoms → Keeps (bit X.users u) X.atoms W.atoms
      → covered links W X (joined W X).users (joined W X).resources u r o ≡ grouped links W X u r o
  user_exactly u r o lu lr lo f s =
      same (covered links W X (joined W X).users (joined W X).resources u r o) (grouped links W X u r o)
      (covered-grouped u r o lu lr lo f s)
      (groups-covered links W X (joined W X).users (joined W X).resources (subset-self (joined W X).users) (subset-self (joined W X).resources) u r o lu lr lo)

  -- so are groups with the same atoms
  pub alike_exactly : W.atoms ≡ X.atoms → (us rs os : ℕ) → us ≤ 64 → rs ≤ 64 → os ≤ 64 → Is (grants_exactly links W X us rs os)
  unfolding grants_exactly
  alike_exactly e us rs os mu mr mo = just_in links W X (joined W X).users (joined W X).resources us rs os λ u r o lu lr lo.
      user_exactly u r o (omega arith) (omega arith) (omega arith) (λ _ i b. ap (λ (m : ℕ). bit m i) (sym e) ∙ b) (λ _ i b. ap (λ (m : ℕ). bit m i) e ∙ b)

-- a group may become one with itself
pub self-joins : (links : List ℕ) (W : Words) → Is (may_join links W W)
unfolding reaches may_join corners_free
self-joins links W = and_in (and_in reached reached) (and_in free free)
  where
    free : Is (corner_free links (joined W W).atoms (less W.users W.users) (less W.resources W.resources))
    free = free_in links (joined W W).atoms (less W.users W.users) (less W.resources W.resources) λ u r lu lr p q k. let t = less-out W.users W.users u lu p in never t.0 t.1

    reached : Is (reaches W W)
    reached = or_r (eqb (less W.ops W.ops) 0) (and_in (subset-self W.users) (subset-self W.resources))

-- ---- the code's steps

-- what the code has found where the members of both groups pass: their users and resources, their operations, and those there are
pub record MembersPass (W X : Words) (who what us rs os m n s b a : ℕ) (p q : Bool) : Type 0 where
  pub many : us ≤ 64
  pub much : rs ≤ 64
  pub few : os ≤ 64
  pub who-low : who < 2 ^ us
  pub what-low : what < 2 ^ rs
  pub people : m ≡ mask_of 64 (λ k. bit W.users k || bit X.users k)
  pub things : n ≡ mask_of 64 (λ k. bit W.resources k || bit X.resources k)
  pub operations : s ≡ mask_of 64 (λ k. bit W.ops k || bit X.ops k)
  pub there : b ≡ mask_of 64 (λ k. ltb k os)
  pub acts : a ≡ mask_of 64 (λ k. bit s k && bit b k)
  pub people_pass : p ≡ subset m who
  pub things_pass : q ≡ subset n what
  pub passed : ((p && q) && not (eqb a 0)) ≡ true

module _ (links : List ℕ) (W X : Words) (who what us rs os : ℕ) {m n s b a : ℕ} {p q : Bool} (t : MembersPass W X who what us rs os m n s b a p q) where
  act : (o : ℕ) × (o < os) × Is (bit (joined W X).ops o)
  unfolding joined
  act =
      let w = some-member (mask_of 64 (λ k. bit s k && bit b k)) (mask_lt 64 (λ k. bit s k && bit b k)) (eqb-false _ 0 (ap (λ (x : ℕ). eqb x 0) (sym t.acts) ∙ not-true (eqb a 0) (and_r (p && q) _ t.passed))) in
      let k = meet_out s b w.0 w.1 w.2 in
      (w.0, ltb-true w.0 os (sym (ap (λ (x : ℕ). bit x w.0) t.there ∙ bit_mask 64 (λ k. ltb k os) w.0 w.1) ∙ k.1), sym (ap (λ (x : ℕ). bit x w.0) t.operations) ∙ k.0)

  -- those who pass besides decide
  pub besides_decide : covers_just links W X who what us rs os ≡ (grants_exactly links W X us rs os && rim_free links (mask_of 64 (λ k. bit W.atoms k && bit X.atoms k)) m n who what)
  unfolding joined
  besides_decide =
      rim_law links W X who what us rs os t.many t.much t.few t.who-low t.what-low
      (ap (λ (x : ℕ). subset x who) (sym t.people) ∙ sym t.people_pass ∙ and_l p q (and_l (p && q) _ t.passed))
      (ap (λ (x : ℕ). subset x what) (sym t.things) ∙ sym t.things_pass ∙ and_r p q (and_l (p && q) _ t.passed))
      act.0 act.1 act.2
      ∙ ap₂ (λ (x y : ℕ). grants_exactly links W X us rs os && rim_free links (mask_of 64 (λ k. bit W.atoms k && bit X.atoms k)) x y who what) (sym t.people) (sym t.things)
