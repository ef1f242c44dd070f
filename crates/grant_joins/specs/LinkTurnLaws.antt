-- The laws of the loops: turns that change a table, a set spread over the words of some members, and the number of distinct values.
-- Assumes nothing.
use Rattle.std.specs.Prelude.{ℕ, zero, suc, ◌+◌, ◌*◌, ◌/◌, ◌%◌, ◌^◌, ◌-◌, ◌≤◌, ◌<◌, ltb, set, Bool, true, false, ◌||◌, List, ◌≡◌}
use Rattle.std.proofs.Common.{eqb-true, eq-eqb, ne_eqb, get_or-set_other, ◌∙◌, add-one}
use Rattle.std.proofs.lemmas.Bool.{eqb-false}
use Rattle.std.proofs.Math.Dec.{eqb}
use Rattle.std.proofs.Math.ListN.{length, get_or}
use Rattle.std.proofs.Math.Seq.{get_or-set_same}
use Rattle.std.proofs.Math.Bool.{cond, ◌&&◌, not, and-false, and-true, or-false}
use Rattle.std.proofs.Math.Path.{sym, ap, ap₂}
use native.Mathlib.Omega.{arith}
use Rattle.grant_grids.proofs.UpdateLaws.{updated-long, updated_none}
use Rattle.grant_grids.specs.Updates.{updated}
use Rattle.role_record.specs.RecordLaws.{table_ext}
use Rattle.sets.specs.MemberLaws.{bit-less}
use Rattle.policy.specs.Rules.{form_of, linked}
use Rattle.sets.specs.LoopLaws.{join-out}
use Rattle.sets.specs.Sets.{joining, bit, mask_of, less_one}
use Rattle.sets.specs.Lowest.{lowest_from}
use Rattle.sets.specs.LowestLaws.{lowest_from-most}
use Rattle.sets.specs.MaskLaws.{mask_lt, mask_unique}
use Rattle.sets.specs.SetLaws.{bit-none}
use Rattle.sets.specs.Tests.{Is}
use Rattle.sets.specs.TestLaws.{test, not_in}
use Rattle.role_record.specs.Record.{same_domain}
use Rattle.grant_joins.specs.Tables.{value_count}
use Rattle.grant_joins.specs.Tables.{meet_of, turns, spread_of, joins, union_of, linked_to, link_value, looked_at, link_atom}

-- ---- turns

module _ (step : ℕ → List ℕ → List ℕ) (table : List ℕ) where
  -- one turn more
  pub turns_next : (n : ℕ) (out after : List ℕ) → out ≡ turns step n table → after ≡ step n out → after ≡ turns step (n + 1) table
  turns_next n out after e q = q ∙ ap (step n) e ∙ ap (λ (k : ℕ). turns step k table) (sym (add-one n))

  -- the loop's end
  pub turns-end : (i n : ℕ) (out : List ℕ) → out ≡ turns step i table → i ≡ n → out ≡ turns step n table
  turns-end i n out e q = e ∙ ap (λ (k : ℕ). turns step k table) q

  -- the length stays, if each turn keeps it
  pub turns-long : (size n : ℕ) → ((k : ℕ) (t : List ℕ) → length t ≡ size → length (step k t) ≡ size) → length table ≡ size → length (turns step n table) ≡ size
  turns-long size zero h e = e
  turns-long size (suc n) h e = h n (turns step n table) (turns-long size n h e)

-- ---- joining

-- a turn that joins nobody where the test fails
pub join-nobody : (a : ℕ) (f : ℕ → Bool) (g : ℕ → ℕ) (n m m' word : ℕ) → m ≡ mask_of 64 (joining a f g n) → f n ≡ false → word ≡ 0 → m' ≡ mask_of 64 (λ k. bit m k || bit word k)
    → m' ≡ mask_of 64 (joining a f g (n + 1))
join-nobody a f g n m m' word h e z q = join-out a f g n m m' h e (q ∙ sym (mask_unique 64 m (λ k. bit m k || bit word k) (omega (arith, h, mask_lt 64 (joining a f g n)))
    (λ k l. sym (ap (λ (b : Bool). bit m k || b) (ap (λ (x : ℕ). bit x k) z ∙ bit-none k) ∙ or-false (bit m k)))))

-- ---- spreading

pub spread-long : (n block members word : ℕ) (table : List ℕ) → length (spread_of n block members word table) ≡ n
unfolding spread_of
spread-long n block members word table = updated-long n (λ i old. mask_of 64 (λ x. bit old x || bit word x)) (λ i. eqb (i / 64) block && bit members (i % 64)) table

pub spread_keeps : (n block members word : ℕ) (out after : List ℕ) → after ≡ spread_of (length out) block members word out → length out ≡ n → length after ≡ n
spread_keeps n block members word out after e h = ap length e ∙ spread-long (length out) block members word out ∙ h

module _ (n block word : ℕ) where
  abbrev wider : ℕ → ℕ
  wider old = mask_of 64 (λ x. bit old x || bit word x)

  -- a turn: the word of one who is left is widened, and the rest goes on
  pub spread-turn : (rest y : ℕ) (out : List ℕ) (v : ℕ) → rest < 2 ^ 64 → y < 64 → Is (bit rest y) → 64 * block + 64 ≤ length out → v ≡ mask_of 64 (λ x. bit (get_or out (64 * block + y) 0) x || bit word x)
      → spread_of n block (less_one rest y) word (set out (64 * block + y) v) ≡ spread_of n block rest word out
  unfolding spread_of updated
  spread-turn rest y out v h l b r e =
      table_ext n (λ i. cond (eqb (i / 64) block && bit (less_one rest y) (i % 64)) (wider (get_or (set out (64 * block + y) v) i 0)) (get_or (set out (64 * block + y) v) i 0))
      (λ i. cond (eqb (i / 64) block && bit rest (i % 64)) (wider (get_or out i 0)) (get_or out i 0))
      (λ i k. test (eqb i (64 * block + y)) (λ q. here i (eqb-true i (64 * block + y) q)) (λ q. there i (eqb-false i (64 * block + y) q)))
    where
      here : (i : ℕ) → i ≡ 64 * block + y
          → cond (eqb (i / 64) block && bit (less_one rest y) (i % 64)) (wider (get_or (set out (64 * block + y) v) i 0)) (get_or (set out (64 * block + y) v) i 0)
          ≡ cond (eqb (i / 64) block && bit rest (i % 64)) (wider (get_or out i 0)) (get_or out i 0)
      here i q =
          let p : i / 64 ≡ block = omega arith in
          let s : i % 64 ≡ y = omega arith in
          ap₂ (λ (c : Bool) (x : ℕ). cond c (wider x) x)
          (ap (λ (c : Bool). eqb (i / 64) block && c) (bit-less rest h y (i % 64) ∙ ap (λ (c : Bool). bit rest (i % 64) && not c) (eq-eqb (i % 64) y s) ∙ and-false (bit rest (i % 64))) ∙ and-false (eqb (i / 64) block))
          (ap (λ (x : ℕ). get_or (set out (64 * block + y) v) x 0) q ∙ get_or-set_same out (64 * block + y) v 0 (omega arith) ∙ e)
          ∙ sym (ap₂ (λ (c : Bool) (x : ℕ). cond c (wider (get_or out x 0)) (get_or out x 0)) (ap₂ ◌&&◌ (eq-eqb (i / 64) block p) (ap (bit rest) s ∙ b)) q)

      there : (i : ℕ) → (i ≡ 64 * block + y → ⊥)
          → cond (eqb (i / 64) block && bit (less_one rest y) (i % 64)) (wider (get_or (set out (64 * block + y) v) i 0)) (get_or (set out (64 * block + y) v) i 0)
          ≡ cond (eqb (i / 64) block && bit rest (i % 64)) (wider (get_or out i 0)) (get_or out i 0)
      there i d =
          ap₂ (λ (c : Bool) (x : ℕ). cond c (wider x) x)
          (test (eqb (i / 64) block)
          (λ q. let p = eqb-true (i / 64) block q in
          ap (λ (c : Bool). eqb (i / 64) block && c) (bit-less rest h y (i % 64) ∙ ap (λ (c : Bool). bit rest (i % 64) && c) (not_in (eqb (i % 64) y) (ne_eqb (i % 64) y (λ z. d (omega arith)))) ∙ and-true (bit rest (i % 64))))
          (λ q. ap (λ (c : Bool). c && bit (less_one rest y) (i % 64)) q ∙ sym (ap (λ (c : Bool). c && bit rest (i % 64)) q)))
          (get_or-set_other out (64 * block + y) i v 0 (λ z. d (omega arith)))

  -- with nobody left the table stays
  pub spread-done : (rest : ℕ) (out : List ℕ) → length out ≡ n → rest ≡ 0 → spread_of n block rest word out ≡ out
  unfolding spread_of
  spread-done rest out e z =
      sym (updated_none n (λ i old. wider old) (λ i. eqb (i / 64) block && bit rest (i % 64)) out e
      (λ i l. ap (λ (c : Bool). eqb (i / 64) block && c) (ap (λ (m : ℕ). bit m (i % 64)) z ∙ bit-none (i % 64)) ∙ and-false (eqb (i / 64) block)))

-- ---- the number of distinct values

module _ (f : ℕ → Bool) where
  -- the search goes on past one that fails
  pub lowest-on : (k : ℕ) → k < 64 → f k ≡ false → lowest_from f (k + 1) (64 - (k + 1)) ≡ lowest_from f k (64 - k)
  lowest-on k l e =
      let p : 64 - k ≡ suc (64 - (k + 1)) = omega arith in
      ap (λ (x : ℕ). lowest_from f x (64 - (k + 1))) (add-one k)
      ∙ sym (ap (lowest_from f k) p ∙ ap (λ (b : Bool). cond b k (lowest_from f (suc k) (64 - (k + 1)))) e)

  -- it is left at one that passes
  pub lowest-found : (k : ℕ) → k < 64 → f k ≡ true → k ≡ lowest_from f k (64 - k)
  lowest-found k l e =
      let p : 64 - k ≡ suc (64 - (k + 1)) = omega arith in
      sym (ap (lowest_from f k) p ∙ ap (λ (b : Bool). cond b k (lowest_from f (suc k) (64 - (k + 1)))) e)

  -- or ends
  pub lowest-none : (k : ℕ) → k ≡ 64 → 64 ≡ lowest_from f k (64 - k)
  lowest-none k e = sym (ap (λ (x : ℕ). lowest_from f x (64 - x)) e)

-- ---- one pair of values

module _ (p q t : Bool) (v w : ℕ) where
  pub joins-turned : {d : Bool} → t ≡ true → d ≡ linked (form_of p q) w v → d ≡ joins p q t v w
  unfolding joins
  joins-turned e h = rw e h

  pub joins-straight : {d : Bool} → t ≡ false → d ≡ linked (form_of p q) v w → d ≡ joins p q t v w
  unfolding joins
  joins-straight e h = rw e h

-- ---- the words

-- no place has more than 64
pub number-most : (having : List ℕ) (place n : ℕ) → n ≡ value_count having place → n ≤ 64
unfolding value_count
number-most having place n e = let l = lowest_from-most (λ k. eqb (get_or having (64 * place + k) 0) 0) 0 64 in omega arith

-- nor does an atom look at more
pub looked-most : (having domains : List ℕ) (a b n : ℕ) → n ≡ looked_at having domains a b → n ≤ 64
unfolding looked_at
looked-most having domains a b n e = go (same_domain domains a b) e
  where
    go : (same : Bool) → n ≡ cond same (value_count having a) 0 → n ≤ 64
    go true q = number-most having a n q
    go false q = omega arith

module _ (distinct having kinds : List ℕ) where
  -- the resources that an atom joins with a user value, `m = meet(there, found)`
  pub linked_law : (resources a b k count there found m : ℕ) (left right : Bool) → count ≡ value_count having (7 + b) → left ≡ bit (get_or kinds 0 0) a → right ≡ bit (get_or kinds 1 0) b
      → found ≡ union_of distinct having (joins left right false (get_or distinct (64 * a + k) 0)) (7 + b) count
      → there ≡ mask_of 64 (λ x. ltb x resources) → m ≡ meet_of there found → m ≡ linked_to distinct having kinds resources a b k
  unfolding linked_to
  linked_law resources a b k count there found m left right ec el er ef et em = rw (← el, ← er, ← ec, ← ef, ← et) em

  -- a turn of the loop over the user values, `spread(atom, having, word)`
  pub link-turn : (resources atom k word : ℕ) (out after : List ℕ) → length out ≡ 2304
      → word ≡ linked_to distinct having kinds resources (atom / 6) (atom % 6) k → after ≡ spread_of (length out) atom (get_or having (64 * (atom / 6) + k) 0) word out → after ≡ link_value distinct having kinds resources atom k out
  unfolding link_value
  link-turn resources atom k word out after e ew q = rw (← e, ← ew) q

  -- the length stays
  pub link-long : (domains : List ℕ) (resources atom : ℕ) (out after : List ℕ) → length out ≡ 2304 → after ≡ link_atom distinct having kinds domains resources atom out → length after ≡ 2304
  unfolding link_atom link_value
  link-long domains resources atom out after e q =
      ap length q
      ∙ turns-long (link_value distinct having kinds resources atom) out 2304 (looked_at having domains (atom / 6) (atom % 6))
      (λ k t h. spread-long 2304 atom (get_or having (64 * (atom / 6) + k) 0) (linked_to distinct having kinds resources (atom / 6) (atom % 6) k) t) e
