-- Scratch memory after a join has the groups after the join.
-- Assumes nothing.
use Rattle.std.specs.Prelude.{ℕ, ◌≤◌, ◌<◌, eqb, Bool, true, false, cond, ◌||◌, List, [], ◌∷◌, ◌++◌, ◌⊎◌, ◌≡◌, refl}
use Rattle.std.proofs.Common.{eqb-true, eq-eqb, ne_eqb, inl, inr, sym, ap, ap₂, ◌∙◌, subst, arith}
use Rattle.std.proofs.lemmas.Bool.{eqb-false}
use Rattle.std.proofs.Math.Bool.{or-false, or_assoc}
use Rattle.mine_theory.specs.Search.Frontier.{Groups, joined_at, ok_at}
use Rattle.mine_theory.proofs.Search.FrontierLaws.{ok_at-out, emptied, alive-kept, group-joined, group-kept}
use Rattle.role_record.specs.Record.{Sized}
use Rattle.mine_merge.specs.Traced.{traced_to, Traced}
use Rattle.mine_join.specs.Joins.{Joined}
use Rattle.policy.specs.Covering.{fits, level_of}
use Rattle.policy.specs.Merging.{union, mergeable}
use Rattle.policy.specs.Policy.{Policy, setting_of}
use Rattle.policy.specs.Rules.{Block, NotEmpty}
use Rattle.mine_parts.specs.Layout.{rest_at, atoms_in, level_in, head_in, words_at, is_head_at}
use Rattle.mine_parts.specs.LayoutLaws.{named-same}
use Rattle.sets.specs.TestLaws.{or_l, or_r, or_out, never, test}
use Rattle.sets.specs.Tests.{Is, elem}
use Rattle.mine_groups.specs.PartBlockLaws.{merged-fits, merged_some}
use Rattle.mine_groups.specs.Scratch.{blocks_of}
use Rattle.mine_theory.proofs.Words.WordLaws.{words-joined, union-joined, words_same, roomy}
use Rattle.mine_theory.specs.Words.Words.{joined, words_of}

-- ---- tests and lists

either-group : (c a b x y : Bool) → (cond c a x || cond c b y) ≡ cond c (a || b) (x || y)
either-group true a b x y = refl
either-group false a b x y = refl

elem-append : (k : ℕ) (xs ys : List ℕ) → elem k (xs ++ ys) ≡ (elem k xs || elem k ys)
elem-append k [] ys = refl
elem-append k (x ∷ xs) ys = ap (λ (b : Bool). eqb k x || b) (elem-append k xs ys) ∙ sym (or_assoc (eqb k x) (elem k xs) (elem k ys))

-- a number is this one or another
by_number {ℓ} : {X : Type ℓ} (k i : ℕ) → (k ≡ i → X) → ((k ≡ i → ⊥) → X) → X
by_number k i f g = test (eqb k i) (λ e. f (eqb-true k i e)) (λ e. g (eqb-false k i e))

-- ---- the join

module _ (F : Policy) (Z : Sized F) (parts : ℕ) (t u : List ℕ) (s : Groups (List ℕ)) (i j level : ℕ) (order : i < j) (l : j < parts) (S : Traced F parts t s) (J : Joined t u i j level) (may : Is (ok_at (mergeable (setting_of F) (blocks_of F)) s i j)) (right : level ≡ level_of (setting_of F) (union (setting_of F) (blocks_of F) (s.group i ++ s.group j))) where
  abbrev after : Groups (List ℕ)
  after = joined_at ◌++◌ s i j

  abbrev block : List ℕ → Block
  block = union (setting_of F) (blocks_of F)

  first_below : i < parts
  first_below = omega arith

  first-alive : Is (s.alive i)
  first-alive = (ok_at-out (mergeable (setting_of F) (blocks_of F)) s i j may).0

  second-alive : Is (s.alive j)
  second-alive = (ok_at-out (mergeable (setting_of F) (blocks_of F)) s i j may).1

  merged : Is (mergeable (setting_of F) (blocks_of F) (s.group i) (s.group j))
  merged = (ok_at-out (mergeable (setting_of F) (blocks_of F)) s i j may).2

  -- what is alive after the join is not j, and was alive before
  not_second : (a : ℕ) → Is (after.alive a) → a ≡ j → ⊥
  not_second a p q = never p (ap after.alive q ∙ emptied ◌++◌ s i j)

  was_alive : (a : ℕ) → Is (after.alive a) → Is (s.alive a)
  was_alive a p = sym (alive-kept ◌++◌ s i j a (not_second a p)) ∙ p

  -- the words of the joined group
  words-both : words_at u i ≡ words_of (setting_of F) (block (s.group i ++ s.group j))
  words-both =
      J.words ∙ ap₂ joined (S.words i first_below first-alive) (S.words j l second-alive)
      ∙ sym (words-joined (setting_of F) (roomy F Z) (block (s.group i)) (block (s.group j)))
      ∙ ap (words_of (setting_of F)) (sym (union-joined (setting_of F) (blocks_of F) (s.group i) (s.group j)))

  filled-both : NotEmpty (setting_of F) (block (s.group i ++ s.group j))
  filled-both = merged_some F (s.group i) (s.group j) (S.filled i first_below first-alive)

  -- a head names itself
  own-head : (k : ℕ) → k < parts → Is (s.alive k) → Is (eqb (head_in (rest_at t k)) k)
  own-head k h p = S.heads k h ∙ p

  -- every part names the same part, apart from j
  head-kept : (k : ℕ) → (k ≡ j → ⊥) → head_in (rest_at u k) ≡ head_in (rest_at t k)
  head-kept k dj = by_number k i (λ q. rw q (J.head ∙ sym (eqb-true (head_in (rest_at t i)) i (own-head i first_below first-alive)))) (λ di. ap head_in (J.others k di dj))

  shown-heads : (k : ℕ) → k < parts → is_head_at u k ≡ after.alive k
  shown-heads k h = by_number k j gone (λ dj. ap (λ (x : ℕ). eqb x k) (head-kept k dj) ∙ S.heads k h ∙ sym (alive-kept ◌++◌ s i j k dj))
    where
      gone : k ≡ j → is_head_at u k ≡ after.alive k
      gone q = rw q (ne_eqb (head_in (rest_at u j)) j (λ e. let n = J.named in omega arith) ∙ sym (emptied ◌++◌ s i j))

  -- another part has its words
  words-other : (k : ℕ) → (k ≡ i → ⊥) → (k ≡ j → ⊥) → words_at u k ≡ words_at t k
  words-other k di dj = let o = J.kept k di in words_same o.users o.resources o.operations (ap atoms_in (J.others k di dj))

  -- what holds of the joined group, and held of every other, holds of each
  each_after : (P : ℕ → List ℕ → Type 0) → P i (s.group i ++ s.group j) → ((k : ℕ) → (k ≡ i → ⊥) → (k ≡ j → ⊥) → Is (s.alive k) → P k (s.group k)) → (k : ℕ) → Is (after.alive k) → P k (after.group k)
  each_after P p f k a = by_number k i (λ q. rw q (subst (P i) (sym (group-joined ◌++◌ s i j)) p)) (λ d. subst (P k) (sym (group-kept ◌++◌ s i j k d)) (f k d (not_second k a) (was_alive k a)))

  -- every part names an earlier part, or itself
  shown-earlier : (k : ℕ) → k < parts → head_in (rest_at u k) ≤ k
  shown-earlier k h = by_number k j (λ q. let n = J.named in rw q (omega arith)) (λ d. let e = head-kept k d in let f = S.earlier k h in omega arith)

  -- a head is in its own group alone
  member-head : (a k : ℕ) → a < parts → k < parts → Is (s.alive a) → Is (s.alive k) → elem k (s.group a) ≡ eqb k a
  member-head a k ha hk pa pk = S.members a k ha hk pa ∙ ap (λ (c : Bool). cond c (eqb k a) (elem (head_in (rest_at t k)) (s.group a))) (own-head k hk pk)

  -- j is where i is
  second_traced : (group : List ℕ) (a : ℕ) → traced_to u group a j ≡ elem i group
  second_traced group a =
      ap (λ (x : ℕ). cond (eqb x j) (eqb j a) (elem x group)) J.named
      ∙ ap (λ (b : Bool). cond b (eqb j a) (elem i group)) (ne_eqb i j (λ e. omega arith))

  shown-members : (a k : ℕ) → a < parts → k < parts → Is (after.alive a) → elem k (after.group a) ≡ traced_to u (after.group a) a k
  shown-members a k ha hk p = each_after (λ a g. a < parts → elem k g ≡ traced_to u g a k) (λ h. own) (λ a di dj b h. other a di dj b h) a p ha
    where
      told : (k ≡ j → ⊥) → (group : List ℕ) (a : ℕ) → traced_to t group a k ≡ traced_to u group a k
      told d group a = sym (ap (λ (x : ℕ). cond (eqb x k) (eqb k a) (elem x group)) (head-kept k d))

      own-second : elem j (s.group i ++ s.group j) ≡ traced_to u (s.group i ++ s.group j) i j
      own-second =
          elem-append j (s.group i) (s.group j)
          ∙ or_r (elem j (s.group i)) (member-head j j l l second-alive second-alive ∙ eq-eqb j j refl)
          ∙ sym (second_traced (s.group i ++ s.group j) i ∙ elem-append i (s.group i) (s.group j) ∙ or_l (elem i (s.group j)) (member-head i i first_below first_below first-alive first-alive ∙ eq-eqb i i refl))

      own-other : (k ≡ j → ⊥) → elem k (s.group i ++ s.group j) ≡ traced_to u (s.group i ++ s.group j) i k
      own-other d =
          elem-append k (s.group i) (s.group j)
          ∙ ap₂ ◌||◌ (S.members i k first_below hk first-alive) (S.members j k l hk second-alive)
          ∙ either-group (eqb (head_in (rest_at t k)) k) (eqb k i) (eqb k j) (elem (head_in (rest_at t k)) (s.group i)) (elem (head_in (rest_at t k)) (s.group j))
          ∙ ap₂ (λ (b c : Bool). cond (eqb (head_in (rest_at t k)) k) b c) (ap (λ (b : Bool). eqb k i || b) (ne_eqb k j d) ∙ or-false (eqb k i)) (sym (elem-append (head_in (rest_at t k)) (s.group i) (s.group j)))
          ∙ told d (s.group i ++ s.group j) i

      own : elem k (s.group i ++ s.group j) ≡ traced_to u (s.group i ++ s.group j) i k
      own = by_number k j (λ q. rw q own-second) own-other

      other : (a : ℕ) → (a ≡ i → ⊥) → (a ≡ j → ⊥) → Is (s.alive a) → a < parts → elem k (s.group a) ≡ traced_to u (s.group a) a k
      other a di dj b h = by_number k j (λ q. rw q second) (λ d. S.members a k h hk b ∙ told d (s.group a) a)
        where
          second : elem j (s.group a) ≡ traced_to u (s.group a) a j
          second =
              member-head a j h l b second-alive ∙ ne_eqb j a (λ e. dj (sym e))
              ∙ sym (second_traced (s.group a) a ∙ member-head a i h first_below b first-alive ∙ ne_eqb i a (λ e. di (sym e)))

  -- THE LAW of a join
  pub joined_traced : Traced F parts u (joined_at ◌++◌ s i j)
  joined_traced = record {
    all = S.all;
    named = λ k h. named-same u t k (J.names k) ∙ S.named k h;
    heads = shown-heads;
    words = λ k h a. each_after (λ k g. k < parts → words_at u k ≡ words_of (setting_of F) (block g)) (λ h. words-both) (λ k di dj b h. words-other k di dj ∙ S.words k h b) k a h;
    level = λ k h a. each_after (λ k g. k < parts → level_in (rest_at u k) ≡ level_of (setting_of F) (block g)) (λ h. J.level-set ∙ right) (λ k di dj b h. ap level_in (J.others k di dj) ∙ S.level k h b) k a h;
    fitting = λ k h a. each_after (λ k g. k < parts → Is (fits (setting_of F) (block g) 3)) (λ h. merged-fits F (s.group i) (s.group j) merged) (λ k di dj b h. S.fitting k h b) k a h;
    filled = λ k h a. each_after (λ k g. k < parts → NotEmpty (setting_of F) (block g)) (λ h. filled-both) (λ k di dj b h. S.filled k h b) k a h;
    earlier = shown-earlier;
    members = shown-members;
    low = λ a k h p. each_after (λ a g. a < parts → Is (elem k g) → k < parts) (λ h q. either k (or_out (elem k (s.group i)) (elem k (s.group j)) (sym (elem-append k (s.group i) (s.group j)) ∙ q))) (λ a di dj b h. S.low a k h b) a p h;
  }
    where
      either : (k : ℕ) → Is (elem k (s.group i)) ⊎ Is (elem k (s.group j)) → k < parts
      either k (inl q) = S.low i k first_below first-alive q
      either k (inr q) = S.low j k l second-alive q
