-- What holds of the calls: the output memory, the third demand at the mining call, and what the questions and the judge say of
-- mined bytes.
-- Assumes nothing.
use Rattle.std.specs.Prelude.{ℕ, ◌≤◌, ◌<◌, eqb, ltb, leb, length, get_or, Bool, true, false, cond, not, ◌⊎◌, ◌≡◌}
use borrow.Author.Tests.{eqb-true, eq-eqb, ltb-true, le-leb, leb-true, not-false}
use Rattle.std.proofs.Math.ListN.{drop, length-drop, take, length-append}
use Rattle.std.proofs.Math.Seq.{take-append_seam, drop-append_seam}
use Rattle.std.proofs.lemmas.Bool.{false≢true}
use mathlib.Core.List.Memᴰ
use mathlib.Core.List.{List, [], ◌∷◌, ◌++◌, map}
use Rattle.std.proofs.Common.{inl, inr, ◌∙◌, arith}
use Rattle.std.proofs.Math.Option.{Option, none, some}
use Rattle.std.proofs.Math.Path.{refl, sym, ap}
use Rattle.files.specs.Answer.{Refusal, Answer, told, unless, and_then, small_scratch, short_output, bad_cuts, refused, accepted}
use Rattle.files.specs.Beside.{Beside, beside_of}
use Rattle.files.proofs.BytesLaws.{Bytes, carried}
use Rattle.files.specs.Calls.{Counts, Verdict, count_values, decided, first, triples, is_triple, rules_grant, parts_grant, first_difference, first_stray_rule, first_stray_part, verdict, cuts_ok, least_scratch, mined_bytes, mined_counts, may_mine, mine_answer, mine_output, role_question, read_both, rule_question, judge, differ, stray_rule, stray_part, sound}
use Rattle.files.specs.AnyScratch.{AnyScratch}
use Rattle.files.specs.Demand3.{Demand3}
use Rattle.files.proofs.DemandLaws.{demand_3}
use Rattle.files.specs.RoleFile.{read_roles}
use Rattle.files.specs.RuleFile.{Lines, rule_in, listings}
use Rattle.files.proofs.SoundLaws.{Sound, read-sound, encodable}
use Rattle.policy.specs.Cost.{four_ones}
use Rattle.policy.specs.Mined.{part_count}
use Rattle.policy.specs.Policy.{Policy, Senior, senior, setting_of, roles_in}
use Rattle.policy.proofs.PolicyLaws.{lawful, mined-of}
use Rattle.policy.specs.Roles.{Roles, roles_grant}
use Rattle.policy.proofs.RuleLaws.{same_in, same_out}
use Rattle.policy.specs.Rules.{Setting, grants, Triple, Same, same_block, user, resource}
use Rattle.policy.proofs.SeniorLaws.{reach-out, reach_in}
use Rattle.policy.specs.declared.Weights.{Weights}
use Rattle.sets.specs.Tests.{Is, iff, ◌is_in◌, each, up_to, is_some}
use Rattle.sets.specs.TestLaws.{and_l, and_r, test, iff_in, iff-out, each_in, each-out, up_to_in, up_to-out, map_in, map-out, get_d_in}

-- ---- answers

abbrev is_accepted : {A : Type 0} → Answer A → Bool
is_accepted (refused e) = false
is_accepted (accepted a) = true

unless-out : {A : Type 0} (b : Bool) (e : Refusal) (r : Answer A) {a : A} → unless b e r ≡ accepted a → Is b × (r ≡ accepted a)
unless-out true e r h = (refl, h)
unless-out false e r h = absurd (false≢true (ap is_accepted h))

then_out : {A B : Type 0} (r : Answer A) (f : A → Answer B) {b : B} → and_then r f ≡ accepted b → (a : A) × (r ≡ accepted a) × (f a ≡ accepted b)
then_out (refused e) f h = absurd (false≢true (ap is_accepted h))
then_out (accepted a) f h = (a, refl, h)

-- ---- lists

pub first-none : {A : Type 0} (f : A → Bool) (l : List A) → ((x : A) → x is_in l → f x ≡ false) → first f l ≡ none
first-none f [] h = refl
first-none f (x ∷ xs) h = rw (h x (Memᴰ.head refl)) (first-none f xs (λ y m. h y (Memᴰ.tail m)))

pub first_ext : {T : Type 0} (f g : T → Bool) (l : List T) → ((x : T) → x is_in l → f x ≡ g x) → first f l ≡ first g l
first_ext f g [] h = refl
first_ext f g (x ∷ xs) h = rw (h x (Memᴰ.head refl), first_ext f g xs (λ y m. h y (Memᴰ.tail m))) refl

-- ---- the mining call

module _ (W : ℕ) where
  -- what an acceptance says
  pub record Mining (file cuts : List ℕ) (scratch room : ℕ) (F : Policy) : Type 0 where
    pub enough : least_scratch ≤ scratch
    pub reading : read_roles W file ≡ accepted F
    pub legal_cuts : Is (cuts_ok cuts F.roles)
    pub room-left : length (mined_bytes W F cuts) ≤ room

  mined-out : (file cuts : List ℕ) (scratch room : ℕ) (F : Policy) → may_mine W file cuts scratch room ≡ accepted F → Mining file cuts scratch room F
  unfolding may_mine
  mined-out file cuts scratch room F h =
      let s = unless-out (leb least_scratch scratch) small_scratch (and_then (read_roles W file) (λ F. unless (cuts_ok cuts F.roles) bad_cuts (unless (leb (length (mined_bytes W F cuts)) room) short_output (accepted F)))) h in
      let t = then_out (read_roles W file) (λ F. unless (cuts_ok cuts F.roles) bad_cuts (unless (leb (length (mined_bytes W F cuts)) room) short_output (accepted F))) s.1 in
      let c = unless-out (cuts_ok cuts t.0.roles) bad_cuts (unless (leb (length (mined_bytes W t.0 cuts)) room) short_output (accepted t.0)) t.2 in
      let k = unless-out (leb (length (mined_bytes W t.0 cuts)) room) short_output (accepted t.0) c.1 in
      let e : t.0 ≡ F = cc in
      record {
        enough = leb-true least_scratch scratch s.0;
        reading = rw e at t.1;
        legal_cuts = rw e at c.0;
        room-left = leb-true (length (mined_bytes W F cuts)) room (rw e at k.0);
      }

  answer-out : (file cuts : List ℕ) (weights : Weights) (scratch room : ℕ) (c : Counts) → mine_answer W file cuts weights scratch room ≡ accepted c
      → (F : Policy) × (may_mine W file cuts scratch room ≡ accepted F) × (c ≡ mined_counts W F cuts weights)
  unfolding mine_answer
  answer-out file cuts weights scratch room c h =
      let t = then_out (may_mine W file cuts scratch room) (λ F. accepted (mined_counts W F cuts weights)) h in
      let e : c ≡ mined_counts W t.0 cuts weights = cc in
      (t.0, t.1, e)

  output-of : (file cuts : List ℕ) (scratch : ℕ) (former : List ℕ) (F : Policy) → may_mine W file cuts scratch (length former) ≡ accepted F
      → mine_output W file cuts scratch former ≡ mined_bytes W F cuts ++ drop (length (mined_bytes W F cuts)) former
  unfolding mine_output
  output-of file cuts scratch former F h = ap (λ (r : Answer Policy). elim r as (λ _. List ℕ) [ refused e ↦ former | accepted F ↦ mined_bytes W F cuts ++ drop (length (mined_bytes W F cuts)) former ]) h

  -- "Output is untouched": after a refusal it holds its former bytes
  pub refused-output : (file cuts : List ℕ) (weights : Weights) (scratch : ℕ) (former : List ℕ) (e : Refusal) → mine_answer W file cuts weights scratch (length former) ≡ refused e → mine_output W file cuts scratch former ≡ former
  unfolding mine_answer mine_output
  refused-output file cuts weights scratch former e h = go (may_mine W file cuts scratch (length former)) h
    where
      go : (r : Answer Policy) → and_then r (λ F. accepted (mined_counts W F cuts weights)) ≡ refused e → (elim r as (λ _. List ℕ) [ refused e ↦ former | accepted F ↦ mined_bytes W F cuts ++ drop (length (mined_bytes W F cuts)) former ]) ≡ former
      go (refused d) k = refl
      go (accepted F) k = absurd (false≢true (ap is_accepted (sym k)))

  -- after an acceptance it is as long as before, and behind the answer's bytes it holds the former ones
  pub record Behind (former after : List ℕ) (c : Counts) : Type 0 where
    pub as_long : length after ≡ length former
    pub inside : c.size ≤ length former
    pub kept : drop c.size after ≡ drop c.size former

  pub accepted-output : (file cuts : List ℕ) (weights : Weights) (scratch : ℕ) (former : List ℕ) (c : Counts) → mine_answer W file cuts weights scratch (length former) ≡ accepted c → Behind former (mine_output W file cuts scratch former) c
  unfolding mined_counts
  accepted-output file cuts weights scratch former c h =
      let t = answer-out file cuts weights scratch (length former) c h in
      let m = mined-out file cuts scratch (length former) t.0 t.1 in
      let bytes = mined_bytes W t.0 cuts in
      let o = output-of file cuts scratch former t.0 t.1 in
      let room = m.room-left in
      rw (t.2, o) (record {
        as_long = let a = length-append bytes (drop (length bytes) former) in let b = length-drop (length bytes) former in omega arith;
        inside = room;
        kept = drop-append_seam bytes (drop (length bytes) former);
      })

  -- request 13's second sentence: the amount of scratch changes nothing, once it is enough
  pub scratch_free : AnyScratch W
  unfolding mine_answer mine_output may_mine
  scratch_free file cuts weights m n former p q =
      let e : may_mine W file cuts m (length former) ≡ may_mine W file cuts n (length former) = enough_scratch m p ∙ sym (enough_scratch n q) in (
        ap (λ (r : Answer Policy). and_then r (λ F. accepted (mined_counts W F cuts weights))) e,
        ap (λ (r : Answer Policy). elim r as (λ _. List ℕ) [ refused e ↦ former | accepted F ↦ mined_bytes W F cuts ++ drop (length (mined_bytes W F cuts)) former ]) e,
      )
    where
      enough_scratch : (m : ℕ) → least_scratch ≤ m → may_mine W file cuts m (length former) ≡ and_then (read_roles W file) (λ F. unless (cuts_ok cuts F.roles) bad_cuts (unless (leb (length (mined_bytes W F cuts)) (length former)) short_output (accepted F)))
      enough_scratch m p = rw (le-leb least_scratch m p) refl

  -- and of the output memory only its length counts: the answer's bytes are the same whatever it held
  pub former-free : (file cuts : List ℕ) (weights : Weights) (scratch : ℕ) (former other : List ℕ) (c : Counts) → length former ≡ length other → mine_answer W file cuts weights scratch (length former) ≡ accepted c
      → take c.size (mine_output W file cuts scratch former) ≡ take c.size (mine_output W file cuts scratch other)
  unfolding mined_counts
  former-free file cuts weights scratch former other c e h = let t = answer-out file cuts weights scratch (length former) c h in go t.0 c t.1 t.2
    where
      go : (F : Policy) (c : Counts) → may_mine W file cuts scratch (length former) ≡ accepted F → c ≡ mined_counts W F cuts weights → take c.size (mine_output W file cuts scratch former) ≡ take c.size (mine_output W file cuts scratch other)
      go F c m k =
          let front : (l : List ℕ) → may_mine W file cuts scratch (length l) ≡ accepted F → take (length (mined_bytes W F cuts)) (mine_output W file cuts scratch l) ≡ mined_bytes W F cuts =
          λ l n. ap (take (length (mined_bytes W F cuts))) (output-of file cuts scratch l F n) ∙ take-append_seam (mined_bytes W F cuts) (drop (length (mined_bytes W F cuts)) l) in
          rw k (front former m ∙ sym (front other (rw e at m)))

  -- "Mining chooses nothing by cost": with any two weights it is refused for the same cause, or the answers differ at most in the cost, their last
  -- number. The output has no weights to differ by (`mineOutput`)
  pub weights_free : (file cuts : List ℕ) (weights others : Weights) (scratch room : ℕ)
      → take 5 (told count_values (mine_answer W file cuts weights scratch room)) ≡ take 5 (told count_values (mine_answer W file cuts others scratch room))
  unfolding mine_answer mined_counts
  weights_free file cuts weights others scratch room = go (may_mine W file cuts scratch room)
    where
      go : (r : Answer Policy)
          → take 5 (told count_values (and_then r (λ F. accepted (mined_counts W F cuts weights)))) ≡ take 5 (told count_values (and_then r (λ F. accepted (mined_counts W F cuts others))))
      go (refused e) = refl
      go (accepted F) = refl

  -- the demand, of the policy of any accepted role file
  pub policy_demand : (file : List ℕ) → Bytes file → (cuts : List ℕ) (weights : Weights) (F : Policy) → read_roles W file ≡ accepted F → Demand3 W cuts weights (beside_of F) (mined_bytes W F cuts) (mined_counts W F cuts weights)
  unfolding mined_bytes mined_counts
  policy_demand file b cuts weights F h =
      demand_3 W cuts (beside_of F) (lawful F) (mined-of F cuts) (encodable W F (carried (Sound W) (read_roles W file) (read-sound W file b) h)) refl weights (mined_counts W F cuts weights) refl refl refl refl refl

  -- THE THIRD DEMAND: of "the output's first bytes up to the length returned", whatever scratch and output held
  pub third_demand : (file : List ℕ) → Bytes file → (cuts : List ℕ) (weights : Weights) (scratch : ℕ) (former : List ℕ) (c : Counts) → mine_answer W file cuts weights scratch (length former) ≡ accepted c
      → (F : Policy) × (read_roles W file ≡ accepted F) × Demand3 W cuts weights (beside_of F) (take c.size (mine_output W file cuts scratch former)) c
  unfolding mined_counts
  third_demand file b cuts weights scratch former c h = let t = answer-out file cuts weights scratch (length former) c h in go t.0 c t.1 t.2
    where
      go : (F : Policy) (c : Counts) → may_mine W file cuts scratch (length former) ≡ accepted F → c ≡ mined_counts W F cuts weights → (F : Policy) × (read_roles W file ≡ accepted F) × Demand3 W cuts weights (beside_of F) (take c.size (mine_output W file cuts scratch former)) c
      go F c m k =
          let r = (mined-out file cuts scratch (length former) F m).reading in
          let e : take (length (mined_bytes W F cuts)) (mine_output W file cuts scratch former) ≡ mined_bytes W F cuts = ap (take (length (mined_bytes W F cuts))) (output-of file cuts scratch former F m) ∙ take-append_seam (mined_bytes W F cuts) (drop (length (mined_bytes W F cuts)) former) in
          (F, r, rw (k, e) (policy_demand file b cuts weights F r))

-- ---- the questions and the judge, of mined bytes

triple-out : (P : Setting) (t : ℕ × ℕ × ℕ) → t is_in triples P → Triple P t.0 t.1 t.2
unfolding triples
triple-out P t m =
    let a = each-out (λ u. each (λ r. map (λ o. (u, r, o)) (up_to P.slots)) (up_to (P.side resource).count)) (up_to (P.side user).count) m in
    let b = each-out (λ r. map (λ o. (a.0, r, o)) (up_to P.slots)) (up_to (P.side resource).count) a.2 in
    let c = map-out (λ o. (a.0, b.0, o)) (up_to P.slots) b.2 in
    rw c.2 (record { user = up_to-out (P.side user).count a.1; resource = up_to-out (P.side resource).count b.1; op = up_to-out P.slots c.1 })

not_so : (b : Bool) → Is b → not b ≡ false
not_so b h = rw h

first_none_out : {A : Type 0} (f : A → Bool) (l : List A) → is_some (first f l) ≡ false → (x : A) → x is_in l → f x ≡ false
first_none_out f [] h x m = absurd (Memᴰ.not-nil m)
first_none_out f (y ∷ ys) h x m = go (f y) refl h (Memᴰ.cases_cons m) (first_none_out f ys)
  where
    go : (b : Bool) → f y ≡ b → is_some (cond b (some y) (first f ys)) ≡ false → (x ≡ y) ⊎ (x is_in ys) → (is_some (first f ys) ≡ false → (x : _) → x is_in ys → f x ≡ false) → f x ≡ false
    go true e q k r = absurd (false≢true (sym q))
    go false e q (inl d) r = rw d e
    go false e q (inr n) r = r q x n

pub triple_in : (P : Setting) (u r o : ℕ) → Triple P u r o → (u, r, o) is_in triples P
unfolding triples
triple_in P u r o t =
    each_in (λ u. each (λ r. map (λ o. (u, r, o)) (up_to P.slots)) (up_to (P.side resource).count)) (up_to_in t.user)
    (each_in (λ r. map (λ o. (u, r, o)) (up_to P.slots)) (up_to_in t.resource) (map_in (λ o. (u, r, o)) (up_to_in t.op)))

-- numbers within the sizes are those of a triple
pub triple-of : (P : Setting) (u r o : ℕ) → Is (is_triple P u r o) → Triple P u r o
unfolding is_triple
triple-of P u r o k =
    let d = and_r (ltb u (P.side user).count) _ k in
    record {
      user = ltb-true u (P.side user).count (and_l (ltb u (P.side user).count) _ k);
      resource = ltb-true r (P.side resource).count (and_l (ltb r (P.side resource).count) _ d);
      op = ltb-true o P.slots (and_r (ltb r (P.side resource).count) _ d);
    }

-- what the judge's 0 says
pub record Judged (P : Setting) (R : Roles) (rules : List Lines) : Type 0 where
  pub same : (u r o : ℕ) → Triple P u r o → roles_grant P R u r o ≡ rules_grant P rules u r o
  pub exact : (i : ℕ) → i < length rules → Same P (grants P (rule_in P (get_or rules i []))) (parts_grant P R (get_or rules i []))
  pub once : (p : ℕ) → p < part_count P R → listings P R rules p ≡ 1

pub sound_means : (P : Setting) (R : Roles) (rules : List Lines) → verdict P R rules ≡ sound → Judged P R rules
unfolding verdict first_difference first_stray_rule first_stray_part
sound_means P R rules h = record {
  same = λ u r o t.
      iff-out (roles_grant P R u r o) (rules_grant P rules u r o)
      (not-false _ (first_none_out (λ (t : ℕ × ℕ × ℕ). not (iff (roles_grant P R t.0 t.1 t.2) (rules_grant P rules t.0 t.1 t.2))) (triples P) nothing-found.0 (u, r, o) (triple_in P u r o t)));
  exact = λ i l.
      let ls = get_or rules i [] in
      same_out P (grants P (rule_in P ls)) (parts_grant P R ls)
      (not-false _ (first_none_out (λ i. let ls = get_or rules i [] in not (same_block P (grants P (rule_in P ls)) (parts_grant P R ls))) (up_to (length rules)) nothing-found.1 i (up_to_in l)));
  once = λ p l. eqb-true (listings P R rules p) 1 (not-false _ (first_none_out (λ p. not (eqb (listings P R rules p) 1)) (up_to (part_count P R)) nothing-found.2 p (up_to_in l)));
}
  where
    is_sound : Verdict → Bool
    is_sound (differ u r o) = false
    is_sound (stray_rule i) = false
    is_sound (stray_part p) = false
    is_sound sound = true

    none_of : (d : Option (ℕ × ℕ × ℕ)) (i p : Option ℕ) → decided d i p ≡ sound → (is_some d ≡ false) × (is_some i ≡ false) × (is_some p ≡ false)
    none_of (some t) i p e = absurd (false≢true (ap is_sound e))
    none_of none (some i) p e = absurd (false≢true (ap is_sound e))
    none_of none none (some p) e = absurd (false≢true (ap is_sound e))
    none_of none none none e = (refl, refl, refl)

    nothing-found : (is_some (first_difference P R rules) ≡ false) × (is_some (first_stray_rule P R rules) ≡ false) × (is_some (first_stray_part P R rules) ≡ false)
    nothing-found = none_of (first_difference P R rules) (first_stray_rule P R rules) (first_stray_part P R rules) h

-- rules of which the demand holds are sound
demand_sound : (W : ℕ) (cuts : List ℕ) (weights : Weights) (B : Beside) (bytes : List ℕ) (c : Counts) (D : Demand3 W cuts weights B bytes c) → verdict B.setting B.roles D.rules ≡ sound
unfolding verdict first_difference first_stray_rule first_stray_part
demand_sound W cuts weights B bytes c D =
    let P = B.setting in
    let R = B.roles in
    rw (
      first-none (λ (t : ℕ × ℕ × ℕ). not (iff (roles_grant P R t.0 t.1 t.2) (rules_grant P D.rules t.0 t.1 t.2))) (triples P)
          (λ t m. not_so _ (iff_in (roles_grant P R t.0 t.1 t.2) (rules_grant P D.rules t.0 t.1 t.2) (sym (D.same t.0 t.1 t.2 (triple-out P t m))))),
      first-none (λ i. let ls = get_or D.rules i [] in not (same_block P (grants P (rule_in P ls)) (parts_grant P R ls))) (up_to (length D.rules))
          (λ i m. let ls = get_or D.rules i [] in not_so _ (same_in P (grants P (rule_in P ls)) (parts_grant P R ls) (D.exact ls (get_d_in D.rules [] i (up_to-out (length D.rules) m))))),
      first-none (λ p. not (eqb (listings P R D.rules p) 1)) (up_to (part_count P R))
          (λ p m. not_so _ (eq-eqb (listings P R D.rules p) 1 (D.once p (up_to-out (part_count P R) m)))),
    ) refl

module _ (W : ℕ) (file : List ℕ) (b : Bytes file) (F : Policy) (h : read_roles W file ≡ accepted F) where
  -- with any list of cuts
  module _ (cuts : List ℕ) where
    -- the demand by some weights: what it says of the bytes holds by any
    demanded : Demand3 W cuts four_ones (beside_of F) (mined_bytes W F cuts) (mined_counts W F cuts four_ones)
    demanded = policy_demand W file b cuts four_ones F h

    both_read : read_both W file (mined_bytes W F cuts) ≡ accepted (F, demanded.rules)
    unfolding read_both
    both_read = rw (h, demanded.taken) refl

    -- the judge finds nothing amiss in mined bytes
    pub mined-judged : judge W file (mined_bytes W F cuts) ≡ accepted sound
    unfolding judge
    mined-judged = rw (both_read, demand_sound W cuts four_ones (beside_of F) (mined_bytes W F cuts) (mined_counts W F cuts four_ones) demanded) refl

    -- and the rules answer every question as the roles do
    pub mined_questions : (u r o : ℕ) → rule_question W file (mined_bytes W F cuts) u r o ≡ role_question W file u r o
    unfolding rule_question role_question
    mined_questions u r o =
        rw (both_read, h)
        (test (is_triple (setting_of F) u r o)
        (λ k. rw (k, demanded.same u r o (triple-of (setting_of F) u r o k)) refl)
        (λ k. rw k refl))

  -- seniors are the roles reached by one or more lines 07
  pub seniors-reached : (k s : ℕ) → Senior F.line k s → Is (senior F k s)
  unfolding senior
  seniors-reached k s m = reach_in F.line F.roles (λ i j l. ((carried (Sound W) (read_roles W file) (read-sound W file b) h).lines i j l).1) m

  pub reached-seniors : (k s : ℕ) → Is (senior F k s) → Senior F.line k s
  unfolding senior
  reached-seniors k s m = reach-out F.line F.roles k s m
