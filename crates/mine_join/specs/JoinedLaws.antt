-- The laws of a join: the words of scratch memory, the heads and their marks, and the table of the group; and of the last pass over the
-- heads.
-- Assumes nothing.
use Rattle.std.specs.Prelude.{ℕ, ◌+◌, ◌/◌, ◌%◌, ◌^◌, ◌≤◌, ◌<◌, max, min, eqb, ltb, length, get_or, drop, Bool, false, ◌&&◌, not, ◌||◌, List, ◌⊎◌, ◌≡◌, refl}
use Rattle.std.proofs.Common.{eqb-true, eq-eqb, ne_eqb, ltb-false, ltb-true, length-set, inl, inr, ⊎_elim, sym, ap, ◌∙◌, ap₂, arith}
use Rattle.std.proofs.lemmas.Bool.{eqb-false, not-true}
use Rattle.std.proofs.Math.Bool.{and-true, and-false, and_assoc}
use Rattle.std.proofs.Math.Path.{subst}
use Rattle.mine_matches.specs.Matches.{Met, both_members, SidesMet}
use Rattle.mine_heads.specs.HeadLaws.{unmarked-at}
use Rattle.mine_heads.specs.Heads.{in_window, is_marked, unmarked, Marked, Open}
use Rattle.mine_join.specs.Joins.{TakenIn, Joined, Joinable, Resolved}
use Rattle.mine_search.specs.SearchMetLaws.{beside_met, group-begun}
use Rattle.mine_search.specs.PartnerSearch.{GroupMet}
use Rattle.mine_corners.specs.Pairing.{reaches, less}
use Rattle.mine_parts.specs.LayoutLaws.{atoms_packed, level_packed, name_packed, head_packed, stored-users, stored-resources, stored-operations, stored-rest, stored-kept, stored_kept_rest, atoms-low, stored-long, taken-long, taken-kept, taken-other, taken-low, taken-head}
use Rattle.mine_parts.specs.Layout.{most_parts, room_in, users_at, resources_at, operations_at, rest_at, level_in, name_in, head_in, rest_of, words_at, is_head_at, stored_part, head_taken, Kept, atoms_in, low_in}
use Rattle.sets.specs.MaskLaws.{bit-out, mask_lt, mask_same, mask_wide}
use Rattle.sets.specs.SetLaws.{bit_mask, subset_in, subset-chain}
use Rattle.sets.specs.Sets.{bit, mask_of, subset}
use Rattle.sets.specs.TestLaws.{or_l, never, test, fails, and_in, and_l, and_r, or_r, or_out}
use Rattle.sets.specs.Tests.{Is}
use Rattle.mine_theory.proofs.Words.WordLaws.{words_same}
use Rattle.mine_theory.specs.Words.Words.{Words, joined}

-- ---- the words

-- the atoms that two words have
pub meet_low : {m a : ℕ} (b : ℕ) → a < 2 ^ 36 → m ≡ mask_of 64 (λ k. bit a k && bit b k) → m < 2 ^ 36
meet_low {m} {a} b h e = rw (e ∙ narrower) (mask_lt 36 (λ k. bit a k && bit b k))
  where
    low : (k : ℕ) → (bit a k && bit b k) ≡ (ltb k 36 && (bit a k && bit b k))
    low k = test (ltb k 36) (λ q. rw q refl) (λ q. rw (q, bit-out 36 a k h (ltb-false k 36 q)) refl)

    narrower : mask_of 64 (λ k. bit a k && bit b k) ≡ mask_of 36 (λ k. bit a k && bit b k)
    narrower = mask_same 64 (λ k. bit a k && bit b k) (λ k. ltb k 36 && (bit a k && bit b k)) (λ k _. low k) ∙ sym (mask_wide 36 64 (λ k. bit a k && bit b k) (omega arith))

-- the words of both groups, stored as those of i, under its own name
pub taken_in_lem : {u : List ℕ} {W X : Words} {a b c d m n : ℕ} (t : List ℕ) (i j level : ℕ) → i < room_in t → level < 4 → W ≡ words_at t i → X ≡ words_at t j
    → m ≡ mask_of 64 (λ k. bit W.atoms k && bit X.atoms k) → n ≡ name_in (rest_at t i) → d ≡ rest_of m level n i → a ≡ mask_of 64 (λ k. bit W.users k || bit X.users k)
    → b ≡ mask_of 64 (λ k. bit W.resources k || bit X.resources k) → c ≡ mask_of 64 (λ k. bit W.ops k || bit X.ops k) → u ≡ stored_part t i a b c d → TakenIn t u i j level
unfolding joined
taken_in_lem {u} {W} {X} {a} {b} {c} {d} {m} {n} t i j level l low p q e v f g h k s = rw s (record {
  long = stored-long t i a b c d;
  words = words_same (stored-users t i a b c d l ∙ g) (stored-resources t i a b c d l ∙ h) (stored-operations t i a b c d l ∙ k) (ap atoms_in rest ∙ atoms_packed m level n i few low own ∙ e) ∙ both_members;
  level-set = ap level_in rest ∙ level_packed m level n i few low own;
  name = ap name_in rest ∙ name_packed m level n i few low own ∙ v;
  head = ap head_in rest ∙ head_packed m level n i few low own;
  others = λ n d. (stored-kept t i a b c _ n d, stored_kept_rest t i a b c _ n d);
})
  where
    few : m < 2 ^ 36
    few = meet_low X.atoms (atoms-low t i p) e

    own : n < 2 ^ 11
    own = omega arith

    rest : rest_at (stored_part t i a b c d) i ≡ rest_of m level n i
    rest = stored-rest t i a b c d l ∙ f

    both_members : joined W X ≡ joined (words_at t i) (words_at t j)
    both_members = rw (p, q) refl

-- a name is among the lower bits
pub name-stays : (x y : ℕ) → low_in x ≡ low_in y → name_in x ≡ name_in y
name-stays x y e = omega arith

-- i takes in j's group, and j takes the head that i names
pub joined-heads : {t u v : List ℕ} {i j level : ℕ} → i < j → j < room_in t → TakenIn t u i j level → v ≡ head_taken u j i → Joined t v i j level
joined-heads {t} {u} {v} {i} {j} h l T e = rw e (record {
  long = taken-long u j i ∙ T.long;
  words = let o = taken-kept u j i i in words_same o.users o.resources o.operations (ap atoms_in own) ∙ T.words;
  level-set = ap level_in own ∙ T.level-set;
  head = ap head_in own ∙ T.head;
  names = λ k. test (eqb k j) (λ z. second k (eqb-true k j z)) (λ z. other k (eqb-false k j z));
  named = taken-head u j i room ∙ T.head;
  kept = λ k d. let o = (T.others k d).0 in let n = taken-kept u j i k in record { users = n.users ∙ o.users; resources = n.resources ∙ o.resources; operations = n.operations ∙ o.operations };
  others = λ k di dj. taken-other u j i k dj ∙ (T.others k di).1;
})
  where
    room : j < room_in u
    room = let n = T.long in omega arith

    own : rest_at (head_taken u j i) i ≡ rest_at u i
    own = taken-other u j i i (λ q. omega arith)

    second : (k : ℕ) → k ≡ j → name_in (rest_at (head_taken u j i) k) ≡ name_in (rest_at t k)
    second k z = rw z (name-stays _ _ (taken-low u j i room) ∙ ap name_in (T.others j (λ q. omega arith)).1)

    other : (k : ℕ) → (k ≡ j → ⊥) → name_in (rest_at (head_taken u j i) k) ≡ name_in (rest_at t k)
    other k d = ap name_in (taken-other u j i k d) ∙ test (eqb k i) (λ z. rw (eqb-true k i z) T.name) (λ z. ap name_in (T.others k (eqb-false k i z)).1)

-- ---- the heads and their marks

module _ {t u : List ℕ} {i j level : ℕ} (order : i < j) (J : Joined t u i j level) (a : Is (is_head_at t i)) where
  -- j is no head any more, and all others are what they were
  pub joined-head : (k : ℕ) → is_head_at u k ≡ (is_head_at t k && not (eqb k j))
  joined-head k = test (eqb k i) (λ e. first (eqb-true k i e)) (λ e. test (eqb k j) (λ z. second (eqb-true k j z)) (λ z. other (eqb-false k i e) (eqb-false k j z)))
    where
      first : k ≡ i → is_head_at u k ≡ (is_head_at t k && not (eqb k j))
      first q = rw q (eq-eqb (head_in (rest_at u i)) i J.head ∙ sym (ap₂ (λ (x y : Bool). x && not y) a (ne_eqb i j (λ e. omega arith))))

      second : k ≡ j → is_head_at u k ≡ (is_head_at t k && not (eqb k j))
      second q = rw q (ne_eqb (head_in (rest_at u j)) j (λ e. let n = J.named in omega arith) ∙ sym (ap (λ (b : Bool). is_head_at t j && not b) (eq-eqb j j refl) ∙ and-false (is_head_at t j)))

      other : (k ≡ i → ⊥) → (k ≡ j → ⊥) → is_head_at u k ≡ (is_head_at t k && not (eqb k j))
      other di dj = ap (λ (y : ℕ). eqb (head_in y) k) (J.others k di dj) ∙ sym (ap (λ (b : Bool). is_head_at t k && not b) (ne_eqb k j dj) ∙ and-true (is_head_at t k))

-- a join takes the mark of j away
pub marks-joined : {first end : ℕ} {t u marks new : List ℕ} {i j level : ℕ} → i < j → j < most_parts → Joined t u i j level → Is (is_head_at t i) → Marked first end marks t → new ≡ unmarked marks j → Marked first end new u
marks-joined {first} {end} {t} {u} {marks} {new} {i} {j} order l J a M e = rw e (record {
  long = length-set marks (j / 64) (mask_of 64 (λ x. bit (get_or marks (j / 64) 0) x && not (eqb x (j % 64)))) ∙ M.long;
  right = λ k. unmarked-at marks j k M.long l ∙ ap (λ (b : Bool). b && not (eqb k j)) (M.right k) ∙ and_assoc (in_window first end k) (is_head_at t k) (not (eqb k j)) ∙ ap (λ (b : Bool). in_window first end k && b) (sym (joined-head order J a k));
})

-- ---- which heads are open then

-- of two heads in order each is one
pub one_of : (c k : ℕ) {i j : ℕ} → i ≡ min c k → j ≡ max c k → (c ≡ i) ⊎ (c ≡ j)
one_of c k p q = test (ltb c k) (λ e. let l = ltb-true c k e in inl (omega arith)) (λ e. let l = ltb-false c k e in inr (omega arith))

-- who did not reach a group does not reach it with more users and resources
reach_grows : (X W Y : Words) → Y.ops ≡ W.ops → Is (subset W.users Y.users) → Is (subset W.resources Y.resources) → reaches X W ≡ false → reaches X Y ≡ false
unfolding reaches
reach_grows X W Y e p q h = fails (reaches X Y) λ r. ⊎_elim
    (λ a. never (or_l (subset W.users X.users && subset W.resources X.resources) (ap (λ (o : ℕ). eqb (less X.ops o) 0) (sym e) ∙ a)) h)
    (λ a. never (or_r (eqb (less X.ops W.ops) 0) (and_in (subset-chain W.users Y.users X.users p (and_l (subset Y.users X.users) _ a)) (subset-chain W.resources Y.resources X.resources q (and_r (subset Y.users X.users) _ a)))) h)
    (or_out (eqb (less X.ops Y.ops) 0) (subset Y.users X.users && subset Y.resources X.resources) r)

-- either of two sets is within both
first-within : (m n : ℕ) → m < 2 ^ 64 → Is (subset m (mask_of 64 (λ k. bit m k || bit n k)))
first-within m n h = subset_in m (mask_of 64 (λ k. bit m k || bit n k)) λ k x. test (ltb k 64)
    (λ e. bit_mask 64 (λ k. bit m k || bit n k) k (ltb-true k 64 e) ∙ or_l (bit n k) x)
    (λ e. never x (bit-out 64 m k h (ltb-false k 64 e)))

second-within : (m n : ℕ) → n < 2 ^ 64 → Is (subset n (mask_of 64 (λ k. bit m k || bit n k)))
second-within m n h = subset_in n (mask_of 64 (λ k. bit m k || bit n k)) λ k x. test (ltb k 64)
    (λ e. bit_mask 64 (λ k. bit m k || bit n k) k (ltb-true k 64 e) ∙ or_r (bit m k) x)
    (λ e. never x (bit-out 64 n k h (ltb-false k 64 e)))

module _ {t u : List ℕ} {i j level : ℕ} (order : i < j) (l : j < most_parts) (J : Joined t u i j level) (a : Is (is_head_at t i)) (c : ℕ) (one : (c ≡ i) ⊎ (c ≡ j)) where
  users-grow : users_at t c < 2 ^ 64 → Is (subset (users_at t c) (words_at u i).users)
  unfolding joined
  users-grow h = subst (λ (m : ℕ). Is (subset (users_at t c) m)) (sym (ap (λ (W : Words). W.users) J.words)) (⊎_elim
      (λ e. rw e (first-within (users_at t i) (users_at t j) (subst (λ (x : ℕ). users_at t x < 2 ^ 64) e h)))
      (λ e. rw e (second-within (users_at t i) (users_at t j) (subst (λ (x : ℕ). users_at t x < 2 ^ 64) e h))) one)

  resources-grow : resources_at t c < 2 ^ 64 → Is (subset (resources_at t c) (words_at u i).resources)
  unfolding joined
  resources-grow h = subst (λ (m : ℕ). Is (subset (resources_at t c) m)) (sym (ap (λ (W : Words). W.resources) J.words)) (⊎_elim
      (λ e. rw e (first-within (resources_at t i) (resources_at t j) (subst (λ (x : ℕ). resources_at t x < 2 ^ 64) e h)))
      (λ e. rw e (second-within (resources_at t i) (resources_at t j) (subst (λ (x : ℕ). resources_at t x < 2 ^ 64) e h))) one)

  -- a join that adds no operations leaves the heads open that were, but for j
  pub open_joined : {first end : ℕ} (marks new : List ℕ) → users_at t c < 2 ^ 64 → resources_at t c < 2 ^ 64 → operations_at u i ≡ operations_at t c → new ≡ unmarked marks j → Open first end marks t c → Open first end new u i
  open_joined {first} {end} marks new hu hr same e O = rw e (record {
    long = length-set marks (j / 64) (mask_of 64 (λ x. bit (get_or marks (j / 64) 0) x && not (eqb x (j % 64)))) ∙ O.long;
    heads = λ k m.
        let b = sym (unmarked-at marks j k O.long l) ∙ m in
        let o = O.heads k (and_l (is_marked marks k) _ b) in
        and_in (and_l (in_window first end k) (is_head_at t k) o) (joined-head order J a k ∙ and_in (and_r (in_window first end k) (is_head_at t k) o) (and_r (is_marked marks k) _ b));
    far = λ k d b m.
        let w = sym (joined-head order J a k) ∙ and_r (in_window first end k) (is_head_at u k) b in
        let dj = eqb-false k j (not-true (eqb k j) (and_r (is_head_at t k) _ w)) in
        let closed : is_marked marks k ≡ false = sym (ap (λ (x : Bool). is_marked marks k && not x) (ne_eqb k j dj) ∙ and-true (is_marked marks k)) ∙ sym (unmarked-at marks j k O.long l) ∙ m in
        let K = J.kept k d in
        let r = J.others k d dj in
        ap (λ (X : Words). reaches X (words_at u i)) (alike K r)
        ∙ reach_grows (words_at t k) (words_at t c) (words_at u i) same (users-grow hu) (resources-grow hr) (O.far k (λ z. ⊎_elim (λ q. d (z ∙ q)) (λ q. dj (z ∙ q)) one) (and_in (and_l (in_window first end k) (is_head_at u k) b) (and_l (is_head_at t k) _ w)) closed);
  })
    where
      alike : {k : ℕ} → Kept t u k → rest_at u k ≡ rest_at t k → words_at u k ≡ words_at t k
      alike K r = rw (K.users, K.resources, K.operations, r) refl

-- ---- the table of who meets the values of the members

module _ (matches : List ℕ) where
  -- the members of one group alone
  pub group-first : {us rs : ℕ} (t : List ℕ) (c : ℕ) (met : List ℕ) → us ≡ users_at t c → rs ≡ resources_at t c → SidesMet matches (both_members 0 us) (both_members 0 rs) met → GroupMet matches t c met
  group-first t c met e f h = group-begun matches t c met (subst (λ (m : ℕ). Met matches 0 (both_members 0 m) met) e h.0, subst (λ (m : ℕ). Met matches 1 (both_members 0 m) (drop 6 met)) f h.1)

  -- after a join the head has the members of both groups
  pub group-joined : {t u : List ℕ} {i j level us rs : ℕ} (c k : ℕ) (met : List ℕ) → Joined t u i j level → i ≡ min c k → j ≡ max c k → us ≡ users_at t k → rs ≡ resources_at t k
      → SidesMet matches (both_members (users_at t c) us) (both_members (resources_at t c) rs) met → GroupMet matches u i met
  unfolding joined both_members
  group-joined {t} {u} {i} {j} c k met w p q e f h = (
    subst (λ (m : ℕ). Met matches 0 m met) (sym (ap (λ (W : Words). W.users) w.words)) (beside_met matches 0 (users_at t) c k met p q (subst (λ (m : ℕ). Met matches 0 (both_members (users_at t c) m) met) e h.0)),
    subst (λ (m : ℕ). Met matches 1 m (drop 6 met)) (sym (ap (λ (W : Words). W.resources) w.words)) (beside_met matches 1 (resources_at t) c k (drop 6 met) p q (subst (λ (m : ℕ). Met matches 1 (both_members (resources_at t c) m) (drop 6 met)) f h.1)),
  )

-- ---- two heads in order

pub in_order : {end : ℕ} {t : List ℕ} {c k level i j : ℕ} → Joinable end t c k level → i ≡ min c k → j ≡ max c k → (i < j) × (j < end) × Is (is_head_at t i)
in_order {end} {t} J e f = let o = J.order in let b = J.below in (omega arith, omega arith, subst (λ (x : ℕ). Is (is_head_at t x)) (sym e) J.head)

pub joined_same : {t u : List ℕ} {i j y level : ℕ} → j ≡ y → Joined t u i j level → Joined t u i y level
joined_same {t} {u} {i} {j} {y} {level} f J = subst (λ (k : ℕ). Joined t u i k level) f J

-- ---- the last pass over the heads, part by part

-- the parts before n are resolved, and the others are as they were
pub record ResolvedTo (t u : List ℕ) (n : ℕ) : Type 0 where
  pub long : length u ≡ length t
  pub kept : (k : ℕ) → Kept t u k
  pub low : (k : ℕ) → k < n → low_in (rest_at u k) ≡ low_in (rest_at t k)
  pub own : (k : ℕ) → k < n → head_in (rest_at t k) ≡ k → head_in (rest_at u k) ≡ k
  pub named : (k : ℕ) → k < n → head_in (rest_at t k) < k → head_in (rest_at u k) ≡ head_in (rest_at u (head_in (rest_at t k)))
  pub left : (k : ℕ) → n ≤ k → rest_at u k ≡ rest_at t k

module _ (t : List ℕ) where
  -- none is resolved at first
  pub resolve_none : ResolvedTo t t 0
  resolve_none = record {
    long = refl;
    kept = λ k. record { users = refl; resources = refl; operations = refl };
    low = λ k l. absurd (omega arith);
    own = λ k l. absurd (omega arith);
    named = λ k l. absurd (omega arith);
    left = λ k l. refl;
  }

  -- one more
  pub resolve_turn : {u v : List ℕ} {n h p : ℕ} → n < room_in t → ResolvedTo t u n → h ≡ head_in (rest_at u n) → p ≡ min h n → v ≡ head_taken u n p → ResolvedTo t v (n + 1)
  resolve_turn {u} {v} {n} {h} {p} l R f g e = rw e (record {
    long = taken-long u n p ∙ R.long;
    kept = λ k. let o = R.kept k in let m = taken-kept u n p k in record { users = m.users ∙ o.users; resources = m.resources ∙ o.resources; operations = m.operations ∙ o.operations };
    low = λ k b. by_turn k b (λ x. low_in (rest_at (head_taken u n p) x) ≡ low_in (rest_at t x)) (taken-low u n p room ∙ ap low_in (R.left n (omega arith))) (λ d. ap low_in (taken-other u n p k (λ q. omega arith)) ∙ R.low k d);
    own = λ k b. by_turn k b (λ x. head_in (rest_at t x) ≡ x → head_in (rest_at (head_taken u n p) x) ≡ x) (λ q. here n (omega arith) q ∙ ap head_in (R.left n (omega arith)) ∙ q) (λ d q. ap head_in (taken-other u n p k (λ q. omega arith)) ∙ R.own k d q);
    named = λ k b. by_turn k b (λ x. head_in (rest_at t x) < x → head_in (rest_at (head_taken u n p) x) ≡ head_in (rest_at (head_taken u n p) (head_in (rest_at t x))))
        (λ q. here (head_in (rest_at t n)) (omega arith) refl ∙ ap head_in (sym (taken-other u n p (head_in (rest_at t n)) (λ z. omega arith))))
        (λ d q. ap head_in (taken-other u n p k (λ q. omega arith)) ∙ R.named k d q ∙ ap head_in (sym (taken-other u n p (head_in (rest_at t k)) (λ z. omega arith))));
    left = λ k b. taken-other u n p k (λ q. omega arith) ∙ R.left k (omega arith);
  })
    where
      room : n < room_in u
      room = let e = R.long in omega arith

      by_turn : (k : ℕ) → k < n + 1 → (P : ℕ → Type 0) → P n → (k < n → P k) → P k
      by_turn k b P x y = test (eqb k n) (λ q. rw (eqb-true k n q) x) (λ q. let d = eqb-false k n q in y (omega arith))

      here : (x : ℕ) → x ≤ n → head_in (rest_at t n) ≡ x → head_in (rest_at (head_taken u n p) n) ≡ head_in (rest_at u x)
      here x b q =
          let o = ap head_in (R.left n (omega arith)) in
          let z : p ≡ x = omega arith in
          taken-head u n p room ∙ ap (λ (y : ℕ). head_in (rest_at u y)) z

  -- all are resolved at the end
  pub resolve_end : {u : List ℕ} {parts n : ℕ} → ResolvedTo t u n → parts ≤ n → Resolved parts t u
  resolve_end R h = record { long = R.long; kept = R.kept; low = λ k l. R.low k (omega arith); own = λ k l. R.own k (omega arith); named = λ k l. R.named k (omega arith) }
