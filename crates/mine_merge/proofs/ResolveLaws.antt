-- After the last pass over the heads every part names the head of its group: scratch memory shows the groups.
-- Assumes nothing.
use Rattle.std.specs.Prelude.{ℕ, zero, suc, ◌≤◌, ◌<◌, eqb, Bool, false, cond, List, ◌≡◌}
use Rattle.std.proofs.Common.{eqb-true, eq-eqb, ne_eqb, sym, ap, ◌∙◌, arith}
use Rattle.std.proofs.lemmas.Bool.{eqb-false}
use Rattle.mine_theory.specs.Search.Frontier.{Groups}
use Rattle.mine_theory.proofs.Words.WordLaws.{words_same}
use Rattle.mine_merge.specs.Traced.{Traced}
use Rattle.mine_join.specs.Joins.{Resolved}
use Rattle.policy.specs.Policy.{Policy}
use Rattle.mine_join.specs.JoinedLaws.{name-stays}
use Rattle.mine_parts.specs.Layout.{rest_at, atoms_in, level_in, head_in, is_head_at}
use Rattle.mine_parts.specs.LayoutLaws.{named-same}
use Rattle.sets.specs.TestLaws.{test}
use Rattle.sets.specs.Tests.{Is, elem}
use Rattle.mine_groups.specs.Scratch.{ShowsGroups}

module _ (F : Policy) (parts : ℕ) (t u : List ℕ) (s : Groups (List ℕ)) (S : Traced F parts t s) (R : Resolved parts t u) where
  -- the last word keeps its atoms and its level
  atoms-stay : (k : ℕ) → k < parts → atoms_in (rest_at u k) ≡ atoms_in (rest_at t k)
  atoms-stay k h = let e = R.low k h in omega arith

  level-stays : (k : ℕ) → k < parts → level_in (rest_at u k) ≡ level_in (rest_at t k)
  level-stays k h = let e = R.low k h in omega arith

  -- what is known of part k: it names no later part, and is in the group of the head that it names
  abbrev Right : ℕ → Type 0
  Right k = (head_in (rest_at u k) ≤ k) × ((i : ℕ) → i < parts → Is (s.alive i) → elem k (s.group i) ≡ eqb (head_in (rest_at u k)) i)

  right-before : (n k : ℕ) → k < n → k < parts → Right k
  right-before zero k b h = absurd (omega arith)
  right-before (suc n) k b h = test (eqb (head_in (rest_at t k)) k) (λ e. own (eqb-true (head_in (rest_at t k)) k e) e) (λ e. let d = eqb-false (head_in (rest_at t k)) k e in let f = S.earlier k h in let q : head_in (rest_at t k) < k = omega arith in
      named e q (right-before n (head_in (rest_at t k)) (omega arith) (omega arith)))
    where
      members : {c : Bool} → eqb (head_in (rest_at t k)) k ≡ c → (i : ℕ) → i < parts → Is (s.alive i) → elem k (s.group i) ≡ cond c (eqb k i) (elem (head_in (rest_at t k)) (s.group i))
      members e i l a = S.members i k l h a ∙ ap (λ (c : Bool). cond c (eqb k i) (elem (head_in (rest_at t k)) (s.group i))) e

      own : head_in (rest_at t k) ≡ k → Is (eqb (head_in (rest_at t k)) k) → Right k
      own e q = let o = R.own k h e in (omega arith, λ i l a. members q i l a ∙ ap (λ (x : ℕ). eqb x i) (sym o))

      named : eqb (head_in (rest_at t k)) k ≡ false → head_in (rest_at t k) < k → Right (head_in (rest_at t k)) → Right k
      named e q r = let o = R.named k h q in let m = r.0 in (omega arith, λ i l a. members e i l a ∙ r.1 i l a ∙ ap (λ (x : ℕ). eqb x i) (sym o))

  shown-heads : (k : ℕ) → k < parts → is_head_at u k ≡ s.alive k
  shown-heads k h = by-head ∙ S.heads k h
    where
      by-head : eqb (head_in (rest_at u k)) k ≡ eqb (head_in (rest_at t k)) k
      by-head = test (eqb (head_in (rest_at t k)) k)
          (λ e. eq-eqb (head_in (rest_at u k)) k (R.own k h (eqb-true (head_in (rest_at t k)) k e)) ∙ sym e)
          (λ e. let d = eqb-false (head_in (rest_at t k)) k e in
          let f = S.earlier k h in
          let q : head_in (rest_at t k) < k = omega arith in
          let o = R.named k h q in
          let m = (right-before k (head_in (rest_at t k)) q (omega arith)).0 in
          ne_eqb (head_in (rest_at u k)) k (λ z. omega arith) ∙ sym e)

  -- THE LAW of the last pass
  pub resolved_shows : ShowsGroups F parts u s
  resolved_shows = record {
    all = S.all;
    named = λ k h. named-same u t k (name-stays _ _ (R.low k h)) ∙ S.named k h;
    heads = shown-heads;
    words = λ k h a. let o = R.kept k in words_same o.users o.resources o.operations (atoms-stay k h) ∙ S.words k h a;
    level = λ k h a. level-stays k h ∙ S.level k h a;
    fitting = S.fitting;
    filled = S.filled;
    members = λ i k l h a. (right-before (suc k) k (omega arith) h).1 i l a;
    low = S.low;
  }
