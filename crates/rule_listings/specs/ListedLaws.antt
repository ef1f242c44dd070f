-- The tables of listed parts are kept line by line, and the first word astray is the first part astray.
-- Assumes nothing.
use Rattle.std.specs.Prelude.{ℕ, zero, suc, ◌+◌, ◌-◌, ◌≤◌, ◌<◌, ltb, get_or, set, replicate, true, false, cond, ◌&&◌, ◌||◌, List, [], ◌∷◌, ◌++◌, Some, None, Option as Found, ◌≡◌, refl}
use borrow.Author.Tests.{eqb-true, eq-eqb, ne_eqb, ltb-true, ltb-false, lt-ltb, le-ltb}
use Rattle.std.proofs.Math.Dec.{eqb}
use Rattle.std.proofs.Math.ListN.{length}
use Rattle.std.proofs.Math.Bool.{Bool, not, and-false, and-true}
use Rattle.std.proofs.lemmas.Bool.{false≢true}
use Rattle.std.proofs.Math.Option.{some}
use Rattle.std.proofs.Common.{sym, ap₂, ◌∙◌, subst, add-zero, add-suc, suc-add, zero-add, arith}
use Rattle.std.proofs.Math.Path.{ap}
use Rattle.role_record.specs.Cells.{row_cells, row_start, cell_at, cell_row, cell_operation}
use Rattle.role_record.specs.CellsLaws.{cell_parts}
use Rattle.role_record.specs.Record.{Sized, table_of, marked, permission_table, record_with, record_of}
use Rattle.files.specs.Beside.{beside_of}
use Rattle.files.specs.Calls.{first, first_stray_part}
use Rattle.files.specs.RuleFile.{RuleCommand, Lines, is_part_line, names_part, lists, listings, legal, reshapes, opens, value, operations, link, part, level, ends}
use Rattle.rule_listings.specs.Listed.{lead_of, seen_after, again_after, lists_lead, times_listed, seen_table, again_table, once_in, stray_from, stray_of, stray_part_of}
use Rattle.grant_parts.specs.PartTableLaws.{part-role, part-lead, part-shown, no_part}
use Rattle.grant_parts.specs.Parts.{is_part_in}
use Rattle.role_record.specs.RecordLaws.{table_get, table_ext, table_none, table_mark}
use Rattle.policy.proofs.ClassLaws.{part_facts, part_in}
use Rattle.policy.specs.Mined.{part_count, part_at}
use Rattle.policy.specs.Policy.{Policy, setting_of, roles_in}
use Rattle.policy.specs.Roles.{Part, is_part, parts, class_of}
use Rattle.sets.specs.ListLaws.{from_next, each_same, each_rows, sum_ext, keep_ext, each_fewer}
use Rattle.sets.specs.LowestLaws.{lowest_from-some}
use Rattle.sets.specs.MaskLaws.{mask_same, mask_none, least-most}
use Rattle.sets.specs.Sets.{bit, mask_of}
use Rattle.sets.specs.SetLaws.{bit_mask}
use Rattle.sets.specs.Tests.{Is, ◌is_in◌, keep, each, only, from, up_to, sum}
use Rattle.sets.specs.TestLaws.{and_in, and_l, and_r, or_l, never, test, same, any_out}

-- ---- the loop over the words: what is left to look at gives the answer

stray_step : (f g : ℕ → Bool) (m w n : ℕ) (x : Found ℕ) (a b : Bool) → w < n → stray_from f g m (from w (n - w)) ≡ x → f w ≡ a → g w ≡ b
    → cond a (cond b (stray_from f g (m + 1) (from (w + 1) (n - (w + 1)))) (Some m)) (stray_from f g m (from (w + 1) (n - (w + 1)))) ≡ x
stray_step f g m w n x a b h e p q =
    rw (← p, ← q) (let d : m + 1 ≡ suc m = omega arith in ap (λ (k : ℕ). cond (f w) (cond (g w) (stray_from f g k (from (w + 1) (n - (w + 1)))) (Some m)) (stray_from f g m (from (w + 1) (n - (w + 1))))) d)
    ∙ ap (stray_from f g m) (sym (from_next w n h)) ∙ e

pub stray_skip : (f g : ℕ → Bool) (m w n : ℕ) (x : Found ℕ) → w < n → stray_from f g m (from w (n - w)) ≡ x → f w ≡ false → stray_from f g m (from (w + 1) (n - (w + 1))) ≡ x
stray_skip f g m w n x h e p = stray_step f g m w n x false (g w) h e p refl

pub stray_next : (f g : ℕ → Bool) (m w n : ℕ) (x : Found ℕ) → w < n → stray_from f g m (from w (n - w)) ≡ x → f w ≡ true → g w ≡ true → stray_from f g (m + 1) (from (w + 1) (n - (w + 1))) ≡ x
stray_next f g m w n x h e p q = stray_step f g m w n x true true h e p q

pub stray_found : (f g : ℕ → Bool) (m w n : ℕ) (x : Found ℕ) → w < n → stray_from f g m (from w (n - w)) ≡ x → f w ≡ true → g w ≡ false → Some m ≡ x
stray_found f g m w n x h e p q = stray_step f g m w n x true false h e p q

pub stray_end : (f g : ℕ → Bool) (m w n : ℕ) (x : Found ℕ) → n ≤ w → stray_from f g m (from w (n - w)) ≡ x → None ≡ x
stray_end f g m w n x h e = let d : n - w ≡ 0 = omega arith in ap (λ (k : ℕ). stray_from f g m (from w k)) (sym d) ∙ e

pub stray_begin : (holders permissions : List ℕ) (roles ops : ℕ) (seen again : List ℕ)
    → stray_from (λ w. is_part_in holders permissions ops (cell_row w) (cell_operation w)) (λ w. once_in seen again (cell_row w) (cell_operation w)) 0 (from 0 (row_start roles - 0)) ≡ stray_of holders permissions roles ops seen again
unfolding stray_of
stray_begin holders permissions roles ops seen again =
    let d : row_start roles - 0 ≡ row_start roles = omega arith in ap (λ (k : ℕ). stray_from (λ w. is_part_in holders permissions ops (cell_row w) (cell_operation w)) (λ w. once_in seen again (cell_row w) (cell_operation w)) 0 (from 0 k)) d

-- ---- how often a part is listed, line by line

count-more : (f : RuleCommand → Bool) (ls : Lines) (c : RuleCommand) → length (keep f (ls ++ (c ∷ []))) ≡ length (keep f ls) + cond (f c) 1 0
count-more f [] c = go (f c)
  where
    go : (b : Bool) → length (cond b (c ∷ []) []) ≡ 0 + cond b 1 0
    go true = refl
    go false = refl
count-more f (x ∷ ls) c = go (f x) (count-more f ls c)
  where
    go : (b : Bool) → length (keep f (ls ++ (c ∷ []))) ≡ length (keep f ls) + cond (f c) 1 0 → length (cond b (x ∷ keep f (ls ++ (c ∷ []))) (keep f (ls ++ (c ∷ [])))) ≡ length (cond b (x ∷ keep f ls) (keep f ls)) + cond (f c) 1 0
    go true e = ap suc e ∙ sym (suc-add (length (keep f ls)) (cond (f c) 1 0))
    go false e = e

sum-last : (f : Lines → ℕ) (rules : List Lines) (ls : Lines) → sum f (rules ++ (ls ∷ [])) ≡ sum f rules + f ls
sum-last f [] ls = let e : f ls + 0 ≡ 0 + f ls = omega arith in e
sum-last f (x ∷ rules) ls = let e = sum-last f rules ls in let d : f x + (sum f rules + f ls) ≡ (f x + sum f rules) + f ls = omega arith in ap (λ (n : ℕ). f x + n) e ∙ d

times_more : (rules : List Lines) (ls : Lines) (c : RuleCommand) (k o : ℕ) → times_listed (rules ++ ((ls ++ (c ∷ [])) ∷ [])) k o ≡ times_listed (rules ++ (ls ∷ [])) k o + cond (lists_lead k o c) 1 0
unfolding times_listed
times_more rules ls c k o =
    sum-last (λ ls. length (keep (lists_lead k o) ls)) rules (ls ++ (c ∷ []))
    ∙ ap (λ (n : ℕ). sum (λ ls. length (keep (lists_lead k o) ls)) rules + n) (count-more (lists_lead k o) ls c)
    ∙ joined (sum (λ ls. length (keep (lists_lead k o) ls)) rules) (length (keep (lists_lead k o) ls)) (cond (lists_lead k o c) 1 0)
    ∙ ap (λ (n : ℕ). n + cond (lists_lead k o c) 1 0) (sym (sum-last (λ ls. length (keep (lists_lead k o) ls)) rules ls))
  where
    joined : (a b d : ℕ) → a + (b + d) ≡ (a + b) + d
    joined a b d = omega arith

more-seen : (b : Bool) (t : ℕ) → ltb 0 (t + cond b 1 0) ≡ (b || ltb 0 t)
more-seen true t = lt-ltb 0 (t + 1) (omega arith)
more-seen false t = let e : t + 0 ≡ t = omega arith in ap (ltb 0) e

more-again : (b : Bool) (t : ℕ) → ltb 1 (t + cond b 1 0) ≡ ((b && ltb 0 t) || ltb 1 t)
more-again true t =
    same (ltb 1 (t + 1)) (ltb 0 t || ltb 1 t)
    (λ h. let l = ltb-true 1 (t + 1) h in or_l (ltb 1 t) (lt-ltb 0 t (omega arith)))
    (λ h. test (ltb 0 t) (λ p. let l = ltb-true 0 t p in lt-ltb 1 (t + 1) (omega arith)) (λ p. let l = ltb-true 1 t (rw p at h) in lt-ltb 1 (t + 1) (omega arith)))
more-again false t = let e : t + 0 ≡ t = omega arith in ap (ltb 1) e

-- a line that lists a part, of a role and with a lowest operation that the tables have room for
seen-listed : (rules : List Lines) (ls : Lines) (k m : ℕ) → k < 32 → seen_after (seen_table (rules ++ (ls ∷ []))) k m ≡ seen_table (rules ++ ((ls ++ (part k m ∷ [])) ∷ []))
unfolding seen_after seen_table
seen-listed rules ls k m h =
    table_mark 32 (λ j o. ltb 0 (times_listed (rules ++ (ls ∷ [])) j o)) k (lead_of m) h
    ∙ table_ext 32 (λ j. mask_of 64 (λ o. (eqb j k && eqb o (lead_of m)) || ltb 0 (times_listed (rules ++ (ls ∷ [])) j o))) (λ j. mask_of 64 (λ o. ltb 0 (times_listed (rules ++ ((ls ++ (part k m ∷ [])) ∷ [])) j o)))
    (λ j l. mask_same 64 (λ o. (eqb j k && eqb o (lead_of m)) || ltb 0 (times_listed (rules ++ (ls ∷ [])) j o)) (λ o. ltb 0 (times_listed (rules ++ ((ls ++ (part k m ∷ [])) ∷ [])) j o))
    (λ o lo. sym (ap (ltb 0) (times_more rules ls (part k m) j o) ∙ more-seen (eqb j k && eqb o (lead_of m)) (times_listed (rules ++ (ls ∷ [])) j o))))

again-listed : (rules : List Lines) (ls : Lines) (k m : ℕ) → k < 32 → lead_of m < 64 → again_after (seen_table (rules ++ (ls ∷ []))) (again_table (rules ++ (ls ∷ []))) k m ≡ again_table (rules ++ ((ls ++ (part k m ∷ [])) ∷ []))
unfolding again_after seen_table again_table
again-listed rules ls k m h hm =
    by-test (ltb 0 (times k (lead_of m))) refl
    (bit (get_or (table_of 32 (λ j. mask_of 64 (λ o. ltb 0 (times j o)))) k 0) (lead_of m))
    (ap (λ (x : ℕ). bit x (lead_of m)) (table_get 32 (λ j. mask_of 64 (λ o. ltb 0 (times j o))) k h) ∙ bit_mask 64 (λ o. ltb 0 (times k o)) (lead_of m) hm)
  where
    times : ℕ → ℕ → ℕ
    times j o = times_listed (rules ++ (ls ∷ [])) j o

    times-after : ℕ → ℕ → ℕ
    times-after j o = times_listed (rules ++ ((ls ++ (part k m ∷ [])) ∷ [])) j o

    -- at the line's own part the number grows; elsewhere it stays
    here : (j o : ℕ) → ltb 1 (times-after j o) ≡ (((eqb j k && eqb o (lead_of m)) && ltb 0 (times j o)) || ltb 1 (times j o))
    here j o = ap (ltb 1) (times_more rules ls (part k m) j o) ∙ more-again (eqb j k && eqb o (lead_of m)) (times j o)

    at : (b : Bool) → ltb 0 (times k (lead_of m)) ≡ b → (j o : ℕ) → (((eqb j k && eqb o (lead_of m)) && ltb 0 (times j o)) || ltb 1 (times j o)) ≡ (((eqb j k && eqb o (lead_of m)) && b) || ltb 1 (times j o))
    at b e j o =
        test (eqb j k && eqb o (lead_of m))
        (λ p. ap (λ (x : Bool). ((eqb j k && eqb o (lead_of m)) && x) || ltb 1 (times j o)) (ap₂ (λ (x y : ℕ). ltb 0 (times x y)) (eqb-true j k (and_l (eqb j k) (eqb o (lead_of m)) p)) (eqb-true o (lead_of m) (and_r (eqb j k) (eqb o (lead_of m)) p)) ∙ e))
        (λ p. rw p refl)

    by-test : (b : Bool) → ltb 0 (times k (lead_of m)) ≡ b → (d : Bool) → d ≡ ltb 0 (times k (lead_of m))
        → cond d (set (table_of 32 (λ j. mask_of 64 (λ o. ltb 1 (times j o)))) k (marked (get_or (table_of 32 (λ j. mask_of 64 (λ o. ltb 1 (times j o)))) k 0) (lead_of m))) (table_of 32 (λ j. mask_of 64 (λ o. ltb 1 (times j o)))) ≡ table_of 32 (λ j. mask_of 64 (λ o. ltb 1 (times-after j o)))
    by-test true e d q =
        ap (λ (x : Bool). cond x (set (table_of 32 (λ j. mask_of 64 (λ o. ltb 1 (times j o)))) k (marked (get_or (table_of 32 (λ j. mask_of 64 (λ o. ltb 1 (times j o)))) k 0) (lead_of m))) (table_of 32 (λ j. mask_of 64 (λ o. ltb 1 (times j o))))) (q ∙ e)
        ∙ table_mark 32 (λ j o. ltb 1 (times j o)) k (lead_of m) h
        ∙ table_ext 32 (λ j. mask_of 64 (λ o. (eqb j k && eqb o (lead_of m)) || ltb 1 (times j o))) (λ j. mask_of 64 (λ o. ltb 1 (times-after j o)))
        (λ j l. mask_same 64 (λ o. (eqb j k && eqb o (lead_of m)) || ltb 1 (times j o)) (λ o. ltb 1 (times-after j o))
        (λ o lo. ap (λ (x : Bool). x || ltb 1 (times j o)) (sym (and-true (eqb j k && eqb o (lead_of m)))) ∙ sym (here j o ∙ at true e j o)))
    by-test false e d q =
        ap (λ (x : Bool). cond x (set (table_of 32 (λ j. mask_of 64 (λ o. ltb 1 (times j o)))) k (marked (get_or (table_of 32 (λ j. mask_of 64 (λ o. ltb 1 (times j o)))) k 0) (lead_of m))) (table_of 32 (λ j. mask_of 64 (λ o. ltb 1 (times j o))))) (q ∙ e)
        ∙ table_ext 32 (λ j. mask_of 64 (λ o. ltb 1 (times j o))) (λ j. mask_of 64 (λ o. ltb 1 (times-after j o)))
        (λ j l. mask_same 64 (λ o. ltb 1 (times j o)) (λ o. ltb 1 (times-after j o))
        (λ o lo. ap (λ (x : Bool). x || ltb 1 (times j o)) (sym (and-false (eqb j k && eqb o (lead_of m)))) ∙ sym (here j o ∙ at false e j o)))

-- tables of rules that list the parts equally often
tables-same : (before after : List Lines) → ((k o : ℕ) → times_listed before k o ≡ times_listed after k o) → (seen_table before ≡ seen_table after) × (again_table before ≡ again_table after)
unfolding seen_table again_table
tables-same before after h = (by 0, by 1)
  where
    by : (n : ℕ) → table_of 32 (λ k. mask_of 64 (λ o. ltb n (times_listed before k o))) ≡ table_of 32 (λ k. mask_of 64 (λ o. ltb n (times_listed after k o)))
    by n = table_ext 32 (λ k. mask_of 64 (λ o. ltb n (times_listed before k o))) (λ k. mask_of 64 (λ o. ltb n (times_listed after k o))) (λ k l. mask_same 64 (λ o. ltb n (times_listed before k o)) (λ o. ltb n (times_listed after k o)) (λ o lo. ap (ltb n) (h k o)))

no_part_listed : (k o : ℕ) (c : RuleCommand) → is_part_line c ≡ false → lists_lead k o c ≡ false
no_part_listed k o reshapes h = refl
no_part_listed k o opens h = refl
no_part_listed k o (value w set a v) h = refl
no_part_listed k o (operations m) h = refl
no_part_listed k o (link a b) h = refl
no_part_listed k o (part j m) h = never refl h
no_part_listed k o (level x) h = refl
no_part_listed k o ends h = refl

-- a line that is no part line changes neither table
pub other-line : (rules : List Lines) (ls : Lines) (c : RuleCommand) → is_part_line c ≡ false
    → (seen_table (rules ++ (ls ∷ [])) ≡ seen_table (rules ++ ((ls ++ (c ∷ [])) ∷ []))) × (again_table (rules ++ (ls ∷ [])) ≡ again_table (rules ++ ((ls ++ (c ∷ [])) ∷ [])))
other-line rules ls c h =
    tables-same (rules ++ (ls ∷ [])) (rules ++ ((ls ++ (c ∷ [])) ∷ []))
    (λ k o. sym (times_more rules ls c k o ∙ ap (λ (b : Bool). times_listed (rules ++ (ls ∷ [])) k o + cond b 1 0) (no_part_listed k o c h) ∙ more-none (times_listed (rules ++ (ls ∷ [])) k o)))
  where
    more-none : (t : ℕ) → t + 0 ≡ t
    more-none t = omega arith

none_more : (rules : List Lines) (k o : ℕ) → times_listed (rules ++ ([] ∷ [])) k o ≡ times_listed rules k o
unfolding times_listed
none_more rules k o = let e : sum (λ ls. length (keep (lists_lead k o) ls)) rules + 0 ≡ sum (λ ls. length (keep (lists_lead k o) ls)) rules = omega arith in sum-last (λ ls. length (keep (lists_lead k o) ls)) rules [] ∙ e

-- nor does a rule without lines
pub empty-rule : (rules : List Lines) → (seen_table rules ≡ seen_table (rules ++ ([] ∷ []))) × (again_table rules ≡ again_table (rules ++ ([] ∷ [])))
empty-rule rules = tables-same rules (rules ++ ([] ∷ [])) (λ k o. sym (none_more rules k o))

-- no rules list nothing
pub no-rules : (seen_table [] ≡ replicate 32 0) × (again_table [] ≡ replicate 32 0)
unfolding seen_table again_table times_listed
no-rules = (by 0, by 1)
  where
    by : (n : ℕ) → table_of 32 (λ k. mask_of 64 (λ o. ltb n 0)) ≡ replicate 32 0
    by n = table_ext 32 (λ k. mask_of 64 (λ o. ltb n 0)) (λ k. 0) (λ k l. mask_none 64 (λ o. ltb n 0) (λ o lo. le-ltb n 0 (omega arith))) ∙ sym (table_none 32)

-- ---- the numbers of the parts, and the words

-- one part after the other, numbered from n on: the first that passes
abbrev first_from : {A : Type 0} → (A → Bool) → ℕ → List A → Found ℕ
first_from f n [] = None
first_from f n (x ∷ xs) = cond (f x) (Some n) (first_from f (suc n) xs)

-- the first word astray is the first of the things that words stand for
words-first : {A : Type 0} (is_one listed_once : ℕ → Bool) (thing : ℕ → A) (astray : A → Bool) (n : ℕ) (ws : List ℕ) → ((w : ℕ) → astray (thing w) ≡ not (listed_once w))
    → stray_from is_one listed_once n ws ≡ first_from astray n (each (λ w. only (is_one w) (thing w)) ws)
words-first is_one listed_once thing astray n [] h = refl
words-first is_one listed_once thing astray n (w ∷ ws) h = go (is_one w) (listed_once w) (h w) (words-first is_one listed_once thing astray (suc n) ws h) (words-first is_one listed_once thing astray n ws h)
  where
    go : (a b : Bool) → astray (thing w) ≡ not b
        → stray_from is_one listed_once (suc n) ws ≡ first_from astray (suc n) (each (λ w. only (is_one w) (thing w)) ws)
        → stray_from is_one listed_once n ws ≡ first_from astray n (each (λ w. only (is_one w) (thing w)) ws)
        → cond a (cond b (stray_from is_one listed_once (suc n) ws) (Some n)) (stray_from is_one listed_once n ws) ≡ first_from astray n (only a (thing w) ++ each (λ w. only (is_one w) (thing w)) ws)
    go true true e p q = p ∙ sym (ap (λ (b : Bool). cond b (Some n) (first_from astray (suc n) (each (λ w. only (is_one w) (thing w)) ws))) e)
    go true false e p q = sym (ap (λ (b : Bool). cond b (Some n) (first_from astray (suc n) (each (λ w. only (is_one w) (thing w)) ws))) e)
    go false b e p q = q

-- the first member, as the first place
places_first : {A : Type 0} (f : A → Bool) (g : ℕ → Bool) (d : A) (k : ℕ) (l : List A) → ((i : ℕ) → i < length l → f (get_or l i d) ≡ g (k + i)) → first_from f k l ≡ stray_part_of (first g (from k (length l)))
unfolding stray_part_of
places_first f g d k [] h = refl
places_first f g d k (x ∷ xs) h = go (f x) (g k) (h 0 (omega arith) ∙ ap g (add-zero k)) (places_first f g d (suc k) xs (λ i l. h (suc i) (omega arith) ∙ ap g (add-suc k i ∙ sym (suc-add k i))))
  where
    go : (a b : Bool) → a ≡ b → first_from f (suc k) xs ≡ stray_part_of (first g (from (suc k) (length xs))) → cond a (Some k) (first_from f (suc k) xs) ≡ stray_part_of (cond b (some k) (first g (from (suc k) (length xs))))
    go true true e r = refl
    go true false e r = absurd (false≢true (sym e))
    go false true e r = absurd (false≢true e)
    go false false e r = r

-- ---- words, a row for each role

-- listed once: at least once, and not at least twice
once-number : (t : ℕ) → cond (ltb 1 t) false (ltb 0 t) ≡ eqb t 1
once-number zero = refl
once-number (suc zero) = refl
once-number (suc (suc t)) = rw (lt-ltb 1 (suc (suc t)) (omega arith), ne_eqb (suc (suc t)) 1 (omega arith)) refl

once-listed : (rules : List Lines) (k o : ℕ) → k < 32 → o < 64 → once_in (seen_table rules) (again_table rules) k o ≡ eqb (times_listed rules k o) 1
unfolding once_in seen_table again_table
once-listed rules k o hk ho =
    ap₂ (λ (a b : Bool). cond a false b) (shown 1) (shown 0) ∙ once-number (times_listed rules k o)
  where
    shown : (n : ℕ) → bit (get_or (table_of 32 (λ k. mask_of 64 (λ o. ltb n (times_listed rules k o)))) k 0) o ≡ ltb n (times_listed rules k o)
    shown n = ap (λ (x : ℕ). bit x o) (table_get 32 (λ k. mask_of 64 (λ o. ltb n (times_listed rules k o))) k hk) ∙ bit_mask 64 (λ o. ltb n (times_listed rules k o)) o ho

module _ (F : Policy) (Z : Sized F) where
  -- ---- a part is known by its role and lowest operation

  lead-shown : {p : Part} → p is_in parts (setting_of F) (roles_in F) → lead_of (class_of (setting_of F) (roles_in F) p) ≡ p.lead
  unfolding setting_of
  lead-shown {p} i =
      let t = part_facts (setting_of F) (roles_in F) i in
      let n = Z.operable in
      let l : p.lead < F.operations = t.in_slots in
      let low = least-most (bit (class_of (setting_of F) (roles_in F) p)) 64 p.lead t.class_has in
      let has = lowest_from-some (bit (class_of (setting_of F) (roles_in F) p)) 0 64 p.lead (omega arith) (omega arith) t.class_has in
      test (ltb (lead_of (class_of (setting_of F) (roles_in F) p)) p.lead)
      (λ e. never has (t.class_lowest (lead_of (class_of (setting_of F) (roles_in F) p)) (ltb-true (lead_of (class_of (setting_of F) (roles_in F) p)) p.lead e)))
      (λ e. let h = ltb-false (lead_of (class_of (setting_of F) (roles_in F) p)) p.lead e in omega arith)

  -- the part of a legal line
  line-part : (k m : ℕ) → Is (legal (beside_of F) (part k m)) → (p : Part) × (p is_in parts (setting_of F) (roles_in F)) × (k ≡ p.role) × (m ≡ class_of (setting_of F) (roles_in F) p)
  unfolding legal
  line-part k m h =
      let t = any_out (λ p. eqb k p.role && eqb m (class_of (setting_of F) (roles_in F) p)) (parts (setting_of F) (roles_in F)) h in
      (t.0, t.1, eqb-true k t.0.role (and_l (eqb k t.0.role) _ t.2), eqb-true m (class_of (setting_of F) (roles_in F) t.0) (and_r (eqb k t.0.role) _ t.2))

  -- THE LAW of lines: one more that lists a part
  pub list_means : (rules : List Lines) (ls : Lines) (k m : ℕ) → Is (legal (beside_of F) (part k m))
      → (seen_after (seen_table (rules ++ (ls ∷ []))) k m ≡ seen_table (rules ++ ((ls ++ (part k m ∷ [])) ∷ [])))
      × (again_after (seen_table (rules ++ (ls ∷ []))) (again_table (rules ++ (ls ∷ []))) k m ≡ again_table (rules ++ ((ls ++ (part k m ∷ [])) ∷ [])))
  list_means rules ls k m h =
      let t = line-part k m h in
      let hk : k < 32 = subst (λ (x : ℕ). x < 32) (sym t.2) (part-role F Z t.1) in
      let low = ap lead_of t.3 ∙ lead-shown t.1 in
      let hl = part-lead F Z t.1 in
      (seen-listed rules ls k m hk, again-listed rules ls k m hk (omega (arith, low, hl)))

  -- a legal line lists a part where it lists its lowest operation
  lists-lead : {q : Part} → q is_in parts (setting_of F) (roles_in F) → (c : RuleCommand) → Is (legal (beside_of F) c) → lists_lead q.role q.lead c ≡ names_part q.role (class_of (setting_of F) (roles_in F) q) c
  lists-lead i reshapes h = refl
  lists-lead i opens h = refl
  lists-lead i (value w set a v) h = refl
  lists-lead i (operations m) h = refl
  lists-lead i (link a b) h = refl
  lists-lead {q} i (part j m) h =
      let t = line-part j m h in
      let low = ap lead_of t.3 ∙ lead-shown t.1 in
      same (eqb q.role j && eqb q.lead (lead_of m)) (eqb q.role j && eqb (class_of (setting_of F) (roles_in F) q) m)
      (λ s. let a = and_l (eqb q.role j) (eqb q.lead (lead_of m)) s in
      let b = eqb-true q.lead (lead_of m) (and_r (eqb q.role j) (eqb q.lead (lead_of m)) s) in
      and_in a (eq-eqb (class_of (setting_of F) (roles_in F) q) m (class_by q t.0 (eqb-true q.role j a ∙ t.2) (b ∙ low) ∙ sym t.3)))
      (λ s. let a = and_l (eqb q.role j) (eqb (class_of (setting_of F) (roles_in F) q) m) s in
      let b = eqb-true (class_of (setting_of F) (roles_in F) q) m (and_r (eqb q.role j) (eqb (class_of (setting_of F) (roles_in F) q) m) s) in
      and_in a (eq-eqb q.lead (lead_of m) (sym (lead-shown i) ∙ ap lead_of b)))
    where
      class_by : (p q : Part) → p.role ≡ q.role → p.lead ≡ q.lead → class_of (setting_of F) (roles_in F) p ≡ class_of (setting_of F) (roles_in F) q
      class_by p q a b = ap₂ (λ (r l : ℕ). class_of (setting_of F) (roles_in F) (record { role = r; lead = l })) a b
  lists-lead i (level x) h = refl
  lists-lead i ends h = refl

  times-listings : (rules : List Lines) → ((ls : Lines) → ls is_in rules → (c : RuleCommand) → c is_in ls → Is (legal (beside_of F) c)) → (p : ℕ) → p < part_count (setting_of F) (roles_in F)
      → times_listed rules (part_at (setting_of F) (roles_in F) p).role (part_at (setting_of F) (roles_in F) p).lead ≡ listings (setting_of F) (roles_in F) rules p
  unfolding times_listed listings lists
  times-listings rules h p l =
      let q = part_at (setting_of F) (roles_in F) p in
      sum_ext (λ ls. length (keep (lists_lead q.role q.lead) ls)) (λ ls. length (keep (names_part q.role (class_of (setting_of F) (roles_in F) q)) ls)) rules
      (λ ls m. ap length (keep_ext (lists_lead q.role q.lead) (names_part q.role (class_of (setting_of F) (roles_in F) q)) ls (λ c mc. lists-lead (part_in (setting_of F) (roles_in F) p l) c (h ls m c mc))))

  -- ---- the words that are parts

  -- what word w stands for
  word_part : ℕ → List Part
  word_part w = only (is_part_in (record_of F).holders (permission_table F) F.operations (cell_row w) (cell_operation w)) (record { role = cell_row w; lead = cell_operation w })

  role_part : ℕ → ℕ → List Part
  role_part k o = only (is_part_in (record_of F).holders (permission_table F) F.operations k o) (record { role = k; lead = o })

  role-words : (k : ℕ) → k < 32 → each (λ o. word_part (cell_at k o)) (up_to row_cells) ≡ each (λ o. only (is_part (setting_of F) (roles_in F) k o) (record { role = k; lead = o })) (up_to F.operations)
  unfolding word_part role_part record_of record_with
  role-words k hk =
      let n = Z.operable in
      each_same (λ o. word_part (cell_at k o)) (role_part k) 0 row_cells (λ o a b. word-role o (omega arith))
      ∙ each_fewer (role_part k) F.operations row_cells n (λ o a b. ap (λ (x : Bool). only x (record { role = k; lead = o })) (no_part (record_of F).holders (permission_table F) F.operations k o a))
      ∙ each_same (role_part k) (λ o. only (is_part (setting_of F) (roles_in F) k o) (record { role = k; lead = o })) 0 F.operations (λ o a b. ap (λ (x : Bool). only x (record { role = k; lead = o })) (part-shown F Z k o hk (omega arith)))
    where
      word-role : (o : ℕ) → o < row_cells → word_part (cell_at k o) ≡ role_part k o
      word-role o l = cell_parts (λ x y. only (is_part_in (record_of F).holders (permission_table F) F.operations x y) (record { role = x; lead = y })) k o l

  parts-words : each word_part (up_to (row_start F.roles)) ≡ parts (setting_of F) (roles_in F)
  unfolding parts setting_of roles_in
  parts-words =
      let n = Z.few in
      each_rows word_part row_cells 0 F.roles
      ∙ each_same (λ k. each (λ o. word_part (cell_at k o)) (up_to row_cells)) (λ k. each (λ o. only (is_part (setting_of F) (roles_in F) k o) (record { role = k; lead = o })) (up_to F.operations)) 0 F.roles (λ k a b. role-words k (omega arith))

  once-part : (rules : List Lines) → ((ls : Lines) → ls is_in rules → (c : RuleCommand) → c is_in ls → Is (legal (beside_of F) c)) → (p : ℕ) → p < part_count (setting_of F) (roles_in F)
      → once_in (seen_table rules) (again_table rules) (part_at (setting_of F) (roles_in F) p).role (part_at (setting_of F) (roles_in F) p).lead ≡ eqb (listings (setting_of F) (roles_in F) rules p) 1
  once-part rules h p l =
      let i = part_in (setting_of F) (roles_in F) p l in
      let q = part_at (setting_of F) (roles_in F) p in
      let b = part-lead F Z i in
      once-listed rules q.role q.lead (part-role F Z i) (omega (arith, b)) ∙ ap (λ (t : ℕ). eqb t 1) (times-listings rules h p l)

  -- THE LAW of the verdict: the first part that is not listed exactly once
  pub stray_means : (rules : List Lines) → ((ls : Lines) → ls is_in rules → (c : RuleCommand) → c is_in ls → Is (legal (beside_of F) c))
      → stray_of (record_of F).holders (permission_table F) F.roles F.operations (seen_table rules) (again_table rules) ≡ stray_part_of (first_stray_part (setting_of F) (roles_in F) rules)
  unfolding stray_of first_stray_part part_count part_at word_part
  stray_means rules h =
      words-first (λ w. is_part_in (record_of F).holders (permission_table F) F.operations (cell_row w) (cell_operation w)) (λ w. once_in (seen_table rules) (again_table rules) (cell_row w) (cell_operation w)) (λ w. record { role = cell_row w; lead = cell_operation w }) astray 0 (up_to (row_start F.roles)) (λ w. refl)
      ∙ ap (first_from astray 0) parts-words
      ∙ places_first astray (λ p. not (eqb (listings (setting_of F) (roles_in F) rules p) 1)) (record { role = 0; lead = 0 }) 0 (parts (setting_of F) (roles_in F)) (λ p l. astray-listed p l ∙ ap (λ (x : ℕ). not (eqb (listings (setting_of F) (roles_in F) rules x) 1)) (sym (zero-add p)))
    where
      astray : Part → Bool
      astray p = not (once_in (seen_table rules) (again_table rules) p.role p.lead)

      astray-listed : (p : ℕ) → p < length (parts (setting_of F) (roles_in F)) → astray (get_or (parts (setting_of F) (roles_in F)) p (record { role = 0; lead = 0 })) ≡ not (eqb (listings (setting_of F) (roles_in F) rules p) 1)
      astray-listed p l = ap not (once-part rules h p l)
