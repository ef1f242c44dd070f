-- The levels worked out from the tables are those of the policy.
-- Assumes nothing.
use Prim.Native.Nat.{ℕ, suc, ◌+◌, ◌*◌, ◌^◌, ◌≤◌, ◌<◌, max}
use Rattle.std.proofs.Common.{ltb-true, ltb-false, ◌∙◌}
use Rattle.std.proofs.Math.Dec.{eqb}
use Rattle.std.specs.Prelude.{ltb, get_or, Bool, true, ◌&&◌, ◌||◌, List, ◌++◌, ◌≡◌}
use Rattle.std.proofs.Math.Bool.{false, cond, and_assoc, and-true}
use Rattle.std.proofs.Math.Path.{refl, sym, ap, ap₂, subst, fun_ext}
use Rattle.std.proofs.Math.Numerals.{add-one}
use native.Mathlib.Omega.{arith}
use Rattle.role_record.specs.Record.{Sized, attribute_table, record_with, record_of}
use Rattle.grant_grids.specs.Grid.{difference_of, is_same}
use Rattle.mine_matches.specs.MatchLaws.{passing_means}
use Rattle.mine_matches.specs.Matches.{known_in, matches_in, met_of, both_members, Met, passing_of}
use Rattle.policy.specs.Covering.{stands_in, fits, level_of}
use Rattle.policy.specs.Merging.{union, mergeable}
use Rattle.policy.specs.Policy.{Policy, side_of, setting_of}
use Rattle.policy.proofs.PolicyLaws.{lawful}
use Rattle.policy.specs.Rules.{Which, by, Block, attrs_of, own_at, NotEmpty, user, resource}
use Rattle.sets.specs.LoopLaws.{any_found}
use Rattle.sets.specs.Lowest.{lowest}
use Rattle.sets.specs.LowestLaws.{lowest-most, lowest-least, lowest-some}
use Rattle.sets.specs.MaskLaws.{bit-mask_of, mask_lt, mask_same, mask_wide}
use Rattle.sets.specs.Sets.{bit, subset, mask_of}
use Rattle.sets.specs.Tests.{Is, imp, all, any, up_to}
use Rattle.sets.specs.TestLaws.{fails, never, test, any_in, any_out, up_to_in}
use Rattle.mine_theory.proofs.Words.WordLaws.{words-joined, union-joined, fits-words, own-words, roomy}
use Rattle.mine_theory.specs.Words.Words.{Words, passes, joined, together, words_of, pair_fits}
use Rattle.mine_corners.specs.FitLaws.{Declared, beyond_means, Bounded, joined-self, own-fits, words-bounded, words-declared}
use Rattle.grant_grids.specs.Links.{links_of}
use Rattle.mine_corners.specs.MayJoinLaws.{blocks_join}
use Rattle.mine_pairs.specs.PairLevels.{level_within, with_own, tables_fit, pair_level, group_level}
use Rattle.mine_corners.specs.Pairing.{first_beyond, covers_just, may_join}

-- ---- a loop over the levels: it is left at the first that passes, or ends

module _ (f : ℕ → Bool) where
  passed-by : (n : ℕ) → any f (up_to n) ≡ false → (i : ℕ) → i < n → f i ≡ false
  passed-by n h i l = fails (f i) (λ q. never (any_in f (up_to_in l) q) h)

  -- the first level that passes is the lowest
  pub first-lowest : (l : ℕ) → l ≤ 3 → any f (up_to l) ≡ false → f l ≡ true → l ≡ lowest f
  first-lowest l k h e =
      let m = lowest-least f l e in
      test (ltb (lowest f) l)
      (λ q. never (lowest-some f l k e) (passed-by l h (lowest f) (ltb-true (lowest f) l q)))
      (λ q. let n = ltb-false (lowest f) l q in omega arith)

  -- where none below 3 passes it is 3
  none-lowest : any f (up_to 3) ≡ false → 3 ≡ lowest f
  unfolding lowest
  none-lowest h = rw (passed-by 3 h 0 (omega arith), passed-by 3 h 1 (omega arith), passed-by 3 h 2 (omega arith)) refl

  -- the first that passes within the limit
  pub level-found : (l limit : ℕ) → limit ≤ 3 → l < limit + 1 → any f (up_to l) ≡ false → f l ≡ true → l ≡ level_within f limit
  unfolding level_within
  level-found l limit k m h e = first-lowest l (omega arith) h e ∙ sym (ap (λ (b : Bool). cond b (lowest f) 4) (any_found f l (suc limit) (omega arith) e))

  -- none within the limit passes
  pub level-none : (l limit : ℕ) → any f (up_to l) ≡ false → l ≡ limit + 1 → 4 ≡ level_within f limit
  unfolding level_within
  level-none l limit h e = sym (ap (λ (b : Bool). cond b (lowest f) 4) (ap (λ (n : ℕ). any f (up_to n)) (sym (e ∙ add-one limit)) ∙ h))

  -- the level of one group, from the levels below 3: one that passes
  pub group-found : (l : ℕ) → l ≡ level_within f 2 → l < 3 → l ≡ lowest f
  unfolding level_within
  group-found l e k = test (any f (up_to 3))
      (λ q. e ∙ ap (λ (b : Bool). cond b (lowest f) 4) q)
      (λ q. let d = e ∙ ap (λ (b : Bool). cond b (lowest f) 4) q in absurd (omega arith))

  -- or none
  pub group-none : (l : ℕ) → l ≡ level_within f 2 → 3 ≤ l → 3 ≡ lowest f
  unfolding level_within
  group-none l e k = test (any f (up_to 3))
      (λ q. let d = e ∙ ap (λ (b : Bool). cond b (lowest f) 4) q in let m = lowest-most f in omega arith)
      none-lowest

-- ---- who meets the values of both groups' members

module _ (matches : List ℕ) (side : ℕ) where
  -- by the word that has them
  pub met_together : (m n k : ℕ) (met : List ℕ) → k ≡ mask_of 64 (λ i. bit m i || bit n i) → Met matches side (both_members m n) met → Met matches side k met
  unfolding both_members
  met_together m n k met e h = rw e h

-- ---- one level

module _ (matches : List ℕ) (side members passing : ℕ) where
  -- the 255 is asked for
  pub own-asked : {own : Bool} {m r : ℕ} → own ≡ true → m ≡ met_of matches (7 * side + 6) members → r ≡ mask_of 64 (λ k. bit passing k && bit m k) → r ≡ with_own matches side own members passing
  unfolding with_own
  own-asked e q h = rw e (h ∙ ap (λ (x : ℕ). mask_of 64 (λ k. bit passing k && bit x k)) q)

  -- it is not
  pub own_not_asked : {own : Bool} → own ≡ false → passing ≡ with_own matches side own members passing
  unfolding with_own
  own_not_asked e = rw e refl

-- who passes with the 255 or without, from those who pass without
pub own_passing : (matches known : List ℕ) (attributes side members count : ℕ) (own : Bool) → count ≤ 64
    → with_own matches side own members (passing_of matches known attributes side false members count) ≡ passing_of matches known attributes side own members count
unfolding with_own passing_of
own_passing matches known attributes side members count false l = refl
own_passing matches known attributes side members count true l =
    mask_same 64 (λ k. bit (mask_of count (λ x. asked x && true)) k && met k) (λ k. ltb k count && (asked k && met k)) (λ k _.
    ap (λ (b : Bool). b && met k) (bit-mask_of count (λ x. asked x && true) k ∙ ap (λ (b : Bool). ltb k count && b) (and-true (asked k))) ∙ and_assoc (ltb k count) (asked k) (met k))
    ∙ sym (mask_wide count 64 (λ x. asked x && met x) l)
  where
    asked : ℕ → Bool
    asked x = all (λ a. imp (subset members (get_or known (7 * side + a) 0)) (bit (met_of matches (7 * side + a) members) x)) (up_to attributes)

    met : ℕ → Bool
    met x = bit (met_of matches (7 * side + 6) members) x

module _ (links matches known attributes : List ℕ) (us rs os : ℕ) (W X : Words) (l : ℕ) where
  -- the words that the code has at a level: the users and the resources of both, who and what pass without the 255s, and who and what pass
  pub record PassAt (m n p q who what : ℕ) : Type 0 where
    pub many : us ≤ 64
    pub much : rs ≤ 64
    pub people : m ≡ mask_of 64 (λ k. bit W.users k || bit X.users k)
    pub things : n ≡ mask_of 64 (λ k. bit W.resources k || bit X.resources k)
    pub people_pass : p ≡ passing_of matches known (get_or attributes 0 0) 0 false m us
    pub things_pass : q ≡ passing_of matches known (get_or attributes 1 0) 1 false n rs
    pub people-here : who ≡ with_own matches 0 (eqb l 1 || eqb l 3) m p
    pub things-here : what ≡ with_own matches 1 (eqb l 2 || eqb l 3) n q

  module _ {m n p q who what : ℕ} (a : PassAt m n p q who what) where
    who-passes : who ≡ passing_of matches known (get_or attributes 0 0) 0 (own_at user l) (joined W X).users us
    unfolding joined
    who-passes =
        a.people-here ∙ ap (with_own matches 0 (eqb l 1 || eqb l 3) m) a.people_pass ∙ own_passing matches known (get_or attributes 0 0) 0 m us (eqb l 1 || eqb l 3) a.many
        ∙ ap (λ (x : ℕ). passing_of matches known (get_or attributes 0 0) 0 (eqb l 1 || eqb l 3) x us) a.people

    what-passes : what ≡ passing_of matches known (get_or attributes 1 0) 1 (own_at resource l) (joined W X).resources rs
    unfolding joined
    what-passes =
        a.things-here ∙ ap (with_own matches 1 (eqb l 2 || eqb l 3) n) a.things_pass ∙ own_passing matches known (get_or attributes 1 0) 1 n rs (eqb l 2 || eqb l 3) a.much
        ∙ ap (λ (x : ℕ). passing_of matches known (get_or attributes 1 0) 1 (eqb l 2 || eqb l 3) x rs) a.things

    -- none passes who is not there
    pub pass_within : (who < 2 ^ us) × (what < 2 ^ rs)
    unfolding passing_of
    pass_within = (subst (λ (x : ℕ). x < 2 ^ us) (sym who-passes) (mask_lt us _), subst (λ (x : ℕ). x < 2 ^ rs) (sym what-passes) (mask_lt rs _))

    -- whether the level fits
    pub level-fits : {s : Bool} → s ≡ covers_just links W X who what us rs os → s ≡ tables_fit links matches known attributes us rs os W X l
    unfolding tables_fit
    level-fits h = h ∙ ap₂ (λ (x y : ℕ). covers_just links W X x y us rs os) who-passes what-passes

-- ---- the plain tests come first

module _ (links matches known attributes : List ℕ) (us rs os : ℕ) (W X : Words) (limit : ℕ) where
  -- they refuse
  pub pair-refused : {p : Bool} → p ≡ may_join links W X → p ≡ false → 4 ≡ pair_level links matches known attributes us rs os W X limit
  unfolding pair_level
  pair-refused e h = rw (sym e ∙ h) refl

  -- they pass, and the comparison decides
  pub pair-level : {p : Bool} {r : ℕ} → p ≡ may_join links W X → p ≡ true → r ≡ level_within (tables_fit links matches known attributes us rs os W X) limit → r ≡ pair_level links matches known attributes us rs os W X limit
  unfolding pair_level
  pair-level e h k = rw (sym e ∙ h) k

-- ---- a policy

module _ (F : Policy) where
  -- two groups together fit a level, by the tables of the policy's record
  abbrev pub fit_in : Words → Words → ℕ → Bool
  fit_in = tables_fit (links_of F) (matches_in F) (known_in F) (record_of F).attributes (record_of F).users (record_of F).resources (record_of F).operations

  -- the level of two groups together, and of one
  abbrev pub pair_level_in : Words → Words → ℕ → ℕ
  pair_level_in = pair_level (links_of F) (matches_in F) (known_in F) (record_of F).attributes (record_of F).users (record_of F).resources (record_of F).operations

  abbrev pub group_level_in : Words → ℕ
  group_level_in = group_level (links_of F) (matches_in F) (known_in F) (record_of F).attributes (record_of F).users (record_of F).resources (record_of F).operations

module _ (F : Policy) (Z : Sized F) where
  -- what the code requires of the tables
  pub record-room : ((record_of F).users ≤ 64) × ((record_of F).resources ≤ 64) × ((record_of F).operations ≤ 64) × (get_or (record_of F).attributes 0 0 ≤ 6) × (get_or (record_of F).attributes 1 0 ≤ 6)
  unfolding record_of record_with attribute_table
  record-room = let m = Z.operable in (Z.many user, Z.many resource, omega arith, Z.declared user, Z.declared resource)

  -- who passes, by the tables
  pass_means : (w : Which) (l members : ℕ) → members < 2 ^ ((setting_of F).side w).count
      → passing_of (matches_in F) (known_in F) ((setting_of F).side w).attrs (by w 0 1) (own_at w l) members ((setting_of F).side w).count
      ≡ mask_of ((setting_of F).side w).count (passes ((setting_of F).side w) (attrs_of ((setting_of F).side w) (own_at w l)) (bit members))
  pass_means user l members h = passing_means F Z 0 (omega arith) members h (own_at user l)
  pass_means resource l members h = passing_means F Z 1 (omega arith) members h (own_at resource l)

  -- THE LAW of one level
  pub fit_means : (W X : Words) → Declared (setting_of F) W.atoms → Declared (setting_of F) X.atoms
      → (joined W X).users < 2 ^ ((setting_of F).side user).count → (joined W X).resources < 2 ^ ((setting_of F).side resource).count → (l : ℕ) → fit_in F W X l ≡ pair_fits (setting_of F) W X l
  unfolding tables_fit record_of record_with attribute_table setting_of side_of
  fit_means W X d e hu hr l =
      ap₂ (λ (x y : ℕ). is_same (difference_of (first_beyond (links_of F) W X x y (F.table user).count (F.table resource).count F.operations)))
      (pass_means user l (joined W X).users hu) (pass_means resource l (joined W X).resources hr)
      ∙ beyond_means F Z W X d e l

  -- a set of triples has its members within the sizes
  words-within : (B : Block) → ((words_of (setting_of F) B).users < 2 ^ ((setting_of F).side user).count) × ((words_of (setting_of F) B).resources < 2 ^ ((setting_of F).side resource).count)
  unfolding words_of
  words-within B = (mask_lt ((setting_of F).side user).count (stands_in (setting_of F) B user), mask_lt ((setting_of F).side resource).count (stands_in (setting_of F) B resource))

  -- whether two sets of triples together fit a level
  pub fit_blocks : (A B : Block) → Is (fits (setting_of F) A 3) → Is (fits (setting_of F) B 3) → (l : ℕ) → fit_in F (words_of (setting_of F) A) (words_of (setting_of F) B) l ≡ fits (setting_of F) (together A B) l
  fit_blocks A B f g l =
      let e = words-joined (setting_of F) (roomy F Z) A B in
      fit_means (words_of (setting_of F) A) (words_of (setting_of F) B) (words-declared (setting_of F) A) (words-declared (setting_of F) B)
      (subst (λ (W : Words). W.users < 2 ^ ((setting_of F).side user).count) e (words-within (together A B)).0) (subst (λ (W : Words). W.resources < 2 ^ ((setting_of F).side resource).count) e (words-within (together A B)).1) l
      ∙ sym (fits-words (setting_of F) (roomy F Z) (lawful F) A B f g l)

  -- the level of two sets of triples together, if they fit one up to a limit
  pub pair_means : (A B : Block) → NotEmpty (setting_of F) A → NotEmpty (setting_of F) B → Is (fits (setting_of F) A 3) → Is (fits (setting_of F) B 3) → (limit : ℕ)
      → pair_level_in F (words_of (setting_of F) A) (words_of (setting_of F) B) limit ≡ level_within (fits (setting_of F) (together A B)) limit
  unfolding pair_level level_within
  pair_means A B a b f g limit =
      ap (λ (t : ℕ → Bool). cond (may_join (links_of F) (words_of (setting_of F) A) (words_of (setting_of F) B)) (level_within t limit) 4) (fun_ext (fit_blocks A B f g))
      ∙ test (may_join (links_of F) (words_of (setting_of F) A) (words_of (setting_of F) B)) (λ q. rw q refl) (λ q. rw (q, refused q) refl)
    where
      refused : may_join (links_of F) (words_of (setting_of F) A) (words_of (setting_of F) B) ≡ false → any (fits (setting_of F) (together A B)) (up_to (suc limit)) ≡ false
      refused q = fails (any (fits (setting_of F) (together A B)) (up_to (suc limit))) (λ h. let t = any_out (fits (setting_of F) (together A B)) (up_to (suc limit)) h in never (blocks_join F Z A B a b f g t.0 t.2) q)

  -- THE LAW of two groups: whether they may become one, and the level of the one
  pub groups_mean : (block : ℕ → Block) (g h : List ℕ) → NotEmpty (setting_of F) (union (setting_of F) block g) → NotEmpty (setting_of F) (union (setting_of F) block h) → Is (fits (setting_of F) (union (setting_of F) block g) 3) → Is (fits (setting_of F) (union (setting_of F) block h) 3)
      → pair_level_in F (words_of (setting_of F) (union (setting_of F) block g)) (words_of (setting_of F) (union (setting_of F) block h)) (max (level_of (setting_of F) (union (setting_of F) block g)) (level_of (setting_of F) (union (setting_of F) block h)))
      ≡ cond (mergeable (setting_of F) block g h) (level_of (setting_of F) (union (setting_of F) block (g ++ h))) 4
  unfolding mergeable level_of level_within
  groups_mean block g h a b p q =
      pair_means (union (setting_of F) block g) (union (setting_of F) block h) a b p q (max (level_of (setting_of F) (union (setting_of F) block g)) (level_of (setting_of F) (union (setting_of F) block h)))
      ∙ ap (λ (B : Block). level_within (fits (setting_of F) B) (max (level_of (setting_of F) (union (setting_of F) block g)) (level_of (setting_of F) (union (setting_of F) block h)))) (sym (union-joined (setting_of F) block g h))

  -- THE LAW of one group
  pub group_means : (B : Block) → Is (fits (setting_of F) B 3) → group_level_in F (words_of (setting_of F) B) ≡ level_of (setting_of F) B
  unfolding group_level level_of
  group_means B f = ap lowest (fun_ext own)
    where
      bounded : Bounded (words_of (setting_of F) B)
      bounded = words-bounded (setting_of F) (roomy F Z) B

      self : joined (words_of (setting_of F) B) (words_of (setting_of F) B) ≡ words_of (setting_of F) B
      self = joined-self (words_of (setting_of F) B) bounded

      own : (l : ℕ) → fit_in F (words_of (setting_of F) B) (words_of (setting_of F) B) l ≡ fits (setting_of F) B l
      own l =
          fit_means (words_of (setting_of F) B) (words_of (setting_of F) B) (words-declared (setting_of F) B) (words-declared (setting_of F) B)
          (subst (λ (W : Words). W.users < 2 ^ ((setting_of F).side user).count) (sym self) (words-within B).0) (subst (λ (W : Words). W.resources < 2 ^ ((setting_of F).side resource).count) (sym self) (words-within B).1) l
          ∙ sym (own-fits (setting_of F) (words_of (setting_of F) B) bounded l) ∙ sym (own-words (setting_of F) (roomy F Z) (lawful F) B f l)
