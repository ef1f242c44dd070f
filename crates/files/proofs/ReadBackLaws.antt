-- The reader takes back every file of rules that ascend, are whole, have legal operands and tell their levels.
-- Assumes nothing.
use Rattle.std.specs.Prelude.{ℕ, zero, suc, length, get_or, drop, Bool, true, false, ◌&&◌, ◌⊎◌, ◌≡◌}
use borrow.Author.Tests.{eq-eqb}
use Rattle.std.proofs.Math.ListN.{set}
use Rattle.std.proofs.lemmas.Bool.{false≢true}
use mathlib.Core.List.Memᴰ
use mathlib.Core.List.{List, [], ◌∷◌, ◌++◌, append_assoc, append-nil}
use Rattle.std.proofs.Math.Logic.{inl, inr}
use Rattle.std.proofs.Math.Option.{none, some}
use Rattle.std.proofs.Math.Path.{refl, ap, subst}
use Rattle.std.proofs.Common.{sym, ◌∙◌, arith}
use Rattle.files.specs.Answer.{Answer, and_then, accepted}
use Rattle.files.specs.Beside.{Beside}
use Rattle.files.specs.Bytes.{operands, spread_all}
use Rattle.files.proofs.BytesLaws.{Fit, Reads, reads_on, reads_end}
use Rattle.files.proofs.LevelLineLaws.{level-kept, not_behind}
use Rattle.files.specs.RuleFile.{RuleCommand, byte_of, operands_of, rule_command, precedes, is_operations, is_level, Lines, rule_in, Reading, ends_file, whole, finished, no_second, follows, legal, levelled, add_line, obey_rule, same_numbers, opened_by, widths_or, rule_widths, encode, encode_all, encode_file, opened, rule_format, read_body, read_rules, reshapes, opens, value, operations, link, part, level, ends}
use Rattle.policy.proofs.MergeLaws.{Every}
use Rattle.policy.specs.Rules.{rule_level, user, resource}
use Rattle.sets.specs.Sorted.{Rising, and-then}
use Rattle.sets.specs.SortedLaws.{Before, Strict, before-apart, before-chain, before-equal}
use Rattle.sets.specs.Tests.{Is, ◌is_in◌, any, each}
use Rattle.sets.specs.TestLaws.{and_in, and_l, and_r, fails, all_in, any_out, not_in}

-- ---- commands

-- a command is known by its byte and operands
pub command-of : (c : RuleCommand) → rule_command (byte_of c) (operands_of c) ≡ c
command-of reshapes = refl
command-of opens = refl
command-of (value user false a v) = refl
command-of (value user true a v) = refl
command-of (value resource false a v) = refl
command-of (value resource true a v) = refl
command-of (operations m) = refl
command-of (link a b) = refl
command-of (part k m) = refl
command-of (level l) = refl
command-of ends = refl

-- commands are strictly ordered
pub lines_strict : Strict precedes
lines_strict = record {
  apart = λ c d. before-apart (byte_of c ∷ operands_of c) (byte_of d ∷ operands_of d);
  chain = λ c d e. before-chain (byte_of c ∷ operands_of c) (byte_of d ∷ operands_of d) (byte_of e ∷ operands_of e);
  equal = λ c d p q. sym (command-of c) ∙ ap (λ (l : List ℕ). rule_command (get_or l 0 0) (drop 1 l)) (before-equal (byte_of c ∷ operands_of c) (byte_of d ∷ operands_of d) p q) ∙ command-of d;
}

-- a line stands within a rule: it is no 20, no 21 and no 2F
abbrev pub inner : RuleCommand → Bool
inner reshapes = false
inner opens = false
inner (value w set a v) = true
inner (operations m) = true
inner (link a b) = true
inner (part k m) = true
inner (level l) = true
inner ends = false

-- ---- the first command

-- operands of one byte each
abbrev pub ones : ℕ → List ℕ
ones zero = []
ones (suc n) = 1 ∷ ones n

-- numbers that are written one behind the other are read as so many operands of one byte
ones-read : (n : ℕ) (xs rest : List ℕ) → length xs ≡ n → operands (ones n) (xs ++ rest) ≡ some (xs, rest)
ones-read zero [] rest h = refl
ones-read zero (x ∷ xs) rest h = absurd (omega arith)
ones-read (suc n) [] rest h = absurd (omega arith)
ones-read (suc n) (x ∷ xs) rest h = rw (ones-read n xs rest (omega arith)) (ap (λ (y : ℕ). some (y ∷ xs, rest)) (omega arith))

pub numbers-same : (xs : List ℕ) → Is (same_numbers xs xs)
numbers-same [] = refl
numbers-same (x ∷ xs) = and_in (eq-eqb x x refl) (numbers-same xs)

-- behind a 20 with the shape that is asked for stands the rest
pub opened-written : (W : ℕ) (shape rest : List ℕ) → length shape ≡ 6 → opened W shape (0x20 ∷ (shape ++ rest)) ≡ accepted rest
unfolding opened
opened-written W shape rest l = rw (ones-read 6 shape rest l, numbers-same shape) refl

module _ (W : ℕ) where
  pub widths-of : (c : RuleCommand) → rule_widths W (byte_of c) ≡ some (widths_or (rule_widths W (byte_of c)))
  widths-of reshapes = refl
  widths-of opens = refl
  widths-of (value user false a v) = refl
  widths-of (value user true a v) = refl
  widths-of (value resource false a v) = refl
  widths-of (value resource true a v) = refl
  widths-of (operations m) = refl
  widths-of (link a b) = refl
  widths-of (part k m) = refl
  widths-of (level l) = refl
  widths-of ends = refl

  -- a command's operands have room in their widths
  abbrev pub FitsWidths : RuleCommand → Type 0
  FitsWidths c = Fit (widths_or (rule_widths W (byte_of c))) (operands_of c)

  module _ (B : Beside) where
    inner-ends : (c : RuleCommand) → Is (inner c) → ends_file c ≡ false
    inner-ends reshapes h = refl
    inner-ends opens h = refl
    inner-ends (value w set a v) h = refl
    inner-ends (operations m) h = refl
    inner-ends (link a b) h = refl
    inner-ends (part k m) h = refl
    inner-ends (level l) h = refl
    inner-ends ends h = sym h

    inner-obey : (s : Reading) (c : RuleCommand) → Is (inner c) → obey_rule B s c ≡ add_line B s c
    unfolding obey_rule
    inner-obey s reshapes h = absurd (false≢true h)
    inner-obey s opens h = absurd (false≢true h)
    inner-obey s (value w set a v) h = refl
    inner-obey s (operations m) h = refl
    inner-obey s (link a b) h = refl
    inner-obey s (part k m) h = refl
    inner-obey s (level l) h = refl
    inner-obey s ends h = absurd (false≢true h)

    -- a line of a rule that may be written
    pub record Good (c : RuleCommand) : Type 0 where
      pub within : Is (inner c)
      pub legally : Is (legal B c)
      pub room : FitsWidths c

    -- there is but one line of a sort
    abbrev pub Single : (RuleCommand → Bool) → Lines → Type 0
    Single sort ls = (c d : RuleCommand) → c is_in ls → d is_in ls → Is (sort c) → Is (sort d) → c ≡ d

    -- the lines of a rule that may be written
    pub record Writable (ls : Lines) : Type 0 where
      pub rising : Rising (Before precedes) ls
      pub good : Every Good ls
      pub single : Single is_operations ls
      pub single-level : Single is_level ls
      pub levels : (l : ℕ) → level l is_in ls → l ≡ rule_level B.setting (rule_in B.setting ls)
      pub complete : Is (whole ls)

    rising-before : {A : Type 0} {Q : A → A → Type 0} (pre : List A) (c : A) (ls : List A) → Rising Q (pre ++ (c ∷ ls)) → (d : A) → d is_in pre → Q d c
    rising-before [] c ls r d m = absurd (Memᴰ.not-nil m)
    rising-before {A = A} {Q = Q} (x ∷ pre) c ls (and-then h r) d m = go (rising-before pre c ls r) (Memᴰ.cases_cons m)
      where
        go : ((d : A) → d is_in pre → Q d c) → (d ≡ x) ⊎ (d is_in pre) → Q d c
        go rec (inl e) = rw e (h c (Memᴰ.append_right pre (Memᴰ.head refl)))
        go rec (inr k) = rec d k

    rising-behind : {A : Type 0} {Q : A → A → Type 0} (pre : List A) (c : A) (ls : List A) → Rising Q (pre ++ (c ∷ ls)) → (d : A) → d is_in ls → Q c d
    rising-behind [] c ls (and-then h r) d m = h d m
    rising-behind (x ∷ pre) c ls (and-then h r) d m = rising-behind pre c ls r d m

    -- a good line follows those before it
    line-follows : (pre : Lines) (c : RuleCommand) (ls : Lines) → Writable (pre ++ (c ∷ ls)) → Is (follows pre c)
    unfolding follows
    line-follows pre c ls w =
        and_in (all_in (λ d. precedes d c) pre (rising-before pre c ls w.rising)) (and_in (first_of is_operations w.single) (first_of is_level w.single-level))
      where
        first_of : (sort : RuleCommand → Bool) → Single sort (pre ++ (c ∷ ls)) → Is (no_second sort pre c)
        first_of sort one = not_in (sort c && any sort pre) (fails (sort c && any sort pre) second)
          where
            second : Is (sort c && any sort pre) → ⊥
            second h =
                let t = any_out sort pre (and_r (sort c) (any sort pre) h) in
                let p = rising-before pre c ls w.rising t.0 t.1 in
                let e = one t.0 c (Memᴰ.append_left (c ∷ ls) t.1) (Memᴰ.append_right pre (Memᴰ.head refl)) t.2 (and_l (sort c) (any sort pre) h) in
                let q : Is (precedes c c) = rw e at p in
                lines_strict.apart c c q q

    -- and a 29 tells the level of the lines before it
    line-levelled : (pre : Lines) (c : RuleCommand) (ls : Lines) → Writable (pre ++ (c ∷ ls)) → Is (levelled B pre c)
    unfolding levelled
    line-levelled pre reshapes ls w = refl
    line-levelled pre opens ls w = refl
    line-levelled pre (value x set a v) ls w = refl
    line-levelled pre (operations m) ls w = refl
    line-levelled pre (link a b) ls w = refl
    line-levelled pre (part k m) ls w = refl
    line-levelled pre (level l) ls w =
        eq-eqb l (rule_level B.setting (rule_in B.setting pre))
        (w.levels l (Memᴰ.append_right pre (Memᴰ.head refl)) ∙ level-kept B.setting pre (level l ∷ ls) (λ d m. not_behind l d (later d (Memᴰ.cases_cons m))))
      where
        later : (d : RuleCommand) → (d ≡ level l) ⊎ (d is_in ls) → (d ≡ level l) ⊎ Is (precedes (level l) d)
        later d (inl e) = inl e
        later d (inr m) = inr (rising-behind pre (level l) ls w.rising d m)
    line-levelled pre ends ls w = refl

    line-added : (done : List Lines) (pre : Lines) (c : RuleCommand) (ls : Lines) → Writable (pre ++ (c ∷ ls))
        → obey_rule B (record { complete = done; current = some pre }) c ≡ accepted (record { complete = done; current = some (pre ++ (c ∷ [])) })
    unfolding add_line
    line-added done pre c ls w =
        let g = w.good c (Memᴰ.append_right pre (Memᴰ.head refl)) in
        inner-obey (record { complete = done; current = some pre }) c g.within ∙ rw (line-follows pre c ls w, g.legally, line-levelled pre c ls w) refl

    -- a rule's lines are read one after the other
    read-lines : (done : List Lines) (pre ls : Lines) (rest : List ℕ) (a : Answer (Reading)) → Writable (pre ++ ls)
        → Reads (rule_format W B) (record { complete = done; current = some (pre ++ ls) }) rest a → Reads (rule_format W B) (record { complete = done; current = some pre }) (each (encode W) ls ++ rest) a
    unfolding encode rule_format
    read-lines done pre [] rest a w r = subst (λ (l : Lines). Reads (rule_format W B) (record { complete = done; current = some l }) rest a) (append-nil pre) r
    read-lines done pre (c ∷ ls) rest a w r = line (read-lines done (pre ++ (c ∷ [])) ls rest a (rw append_assoc w) (rw append_assoc r))
      where
        line : Reads (rule_format W B) (record { complete = done; current = some (pre ++ (c ∷ [])) }) (each (encode W) ls ++ rest) a → Reads (rule_format W B) (record { complete = done; current = some pre }) (each (encode W) (c ∷ ls) ++ rest) a
        line r =
            let g = w.good c (Memᴰ.append_right pre (Memᴰ.head refl)) in
            subst (λ (l : List ℕ). Reads (rule_format W B) (record { complete = done; current = some pre }) (byte_of c ∷ l) a) (sym (append_assoc (spread_all (widths_or (rule_widths W (byte_of c))) (operands_of c)) (each (encode W) ls) rest))
            (reads_on (rule_format W B) (record { complete = done; current = some pre }) (record { complete = done; current = some (pre ++ (c ∷ [])) }) (byte_of c) (widths_or (rule_widths W (byte_of c))) (operands_of c) (each (encode W) ls ++ rest) a
            (widths-of c) g.room (ap (obey_rule B (record { complete = done; current = some pre })) (command-of c) ∙ line-added done pre c ls w) (ap (ends_file) (command-of c) ∙ inner-ends c g.within) r)

    -- the rest of a file: rules that may be written, and the end
    read-rules : (s : Reading) (done rules : List Lines) → finished s ≡ accepted done → Every Writable rules
        → Reads (rule_format W B) s (each (λ ls. each (encode W) (opens ∷ ls)) rules ++ encode W ends) (accepted (record { complete = done ++ rules; current = none }))
    unfolding encode rule_format obey_rule finished
    read-rules s done [] f w =
        reads_end (rule_format W B) s (record { complete = done ++ []; current = none }) 0x2F refl (rw (f, append-nil done) refl) refl
    read-rules s done (ls ∷ rules) f w = opened (read-rules (record { complete = done; current = some ls }) (done ++ (ls ∷ [])) rules closed (λ k m. w k (Memᴰ.tail m)))
      where
        closed : finished (record { complete = done; current = some ls }) ≡ accepted (done ++ (ls ∷ []))
        closed = rw (w ls (Memᴰ.head refl)).complete refl

        more-rules : List ℕ
        more-rules = each (λ ls. each (encode W) (opens ∷ ls)) rules ++ encode W ends

        opened : Reads (rule_format W B) (record { complete = done; current = some ls }) more-rules (accepted (record { complete = (done ++ (ls ∷ [])) ++ rules; current = none }))
            → Reads (rule_format W B) s (each (λ ls. each (encode W) (opens ∷ ls)) (ls ∷ rules) ++ encode W ends) (accepted (record { complete = done ++ (ls ∷ rules); current = none }))
        opened r =
            subst (λ (l : List ℕ). Reads (rule_format W B) s (0x21 ∷ l) (accepted (record { complete = done ++ (ls ∷ rules); current = none }))) (sym (append_assoc (each (encode W) ls) (each (λ ls. each (encode W) (opens ∷ ls)) rules) (encode W ends)))
            (reads_on (rule_format W B) s (record { complete = done; current = some [] }) 0x21 [] [] (each (encode W) ls ++ more-rules) (accepted (record { complete = done ++ (ls ∷ rules); current = none }))
            refl tt (rw f refl) refl
            (read-lines done [] ls more-rules (accepted (record { complete = done ++ (ls ∷ rules); current = none })) (w ls (Memᴰ.head refl)) (rw append_assoc at r)))

    -- such rules are read back as they were written
    body_back : (rules : List Lines) → Every Writable rules → read_body W B (encode_all W rules) ≡ accepted rules
    unfolding read_body encode_all finished
    body_back rules w = rw (read-rules (record { complete = []; current = none }) [] rules refl w (suc (length (encode_all W rules))) (omega arith)) refl

    -- THE LAW: a file of such rules, and with this shape of six numbers, is read back as it was written
    pub read_back : length B.shape ≡ 6 → (rules : List Lines) → Every Writable rules → read_rules W B (encode_file W B.shape rules) ≡ accepted rules
    unfolding read_rules encode_file
    read_back l rules w = ap (λ (a : Answer (List ℕ)). and_then a (read_body W B)) (opened-written W B.shape (encode_all W rules) l) ∙ body_back rules w
