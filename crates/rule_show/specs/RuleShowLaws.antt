-- Where the part that is handed back stands, and the byte beside it, from what was read of both files.
-- Assumes nothing.
use Rattle.std.specs.Prelude.{ℕ, suc, ◌+◌, ◌≤◌, ◌<◌, ltb, length, Bool, true, false, List, Result, Ok, Err, ◌≡◌}
use borrow.Author.Tests.{lt-ltb, le-ltb}
use Rattle.std.proofs.Math.Path.{refl, ap}
use Rattle.std.proofs.Common.{sym, ap₂, ◌∙◌, arith}
use Rattle.files.specs.Answer.{Refusal as Cause, number_of, Answer, unless, and_then, code_of, map_answer, too_long, cut_off, unknown_command, out_of_place, beyond, wrong_kind, own_senior, small_scratch, short_output, rules_cut_off, rules_unknown, rules_order, rules_operand, no_such_rule, zero_seed, wrong_shape, wrong_table, wrong_level, wrong_window, ragged_log, bad_cuts, refused, accepted}
use Rattle.files.proofs.AnswerLaws.{map-refused}
use Rattle.files.proofs.BytesLaws.{number_positive}
use Rattle.files.specs.Calls.{read_both, show_answer, shown_place, shown_byte}
use Rattle.files.specs.Cause.{cause, answer_of}
use Rattle.files.specs.RuleFile.{Lines}
use Rattle.files.specs.RulePart.{rule_start}
use Rattle.files.specs.declared.refusal.Refusal.{Refusal}
use Rattle.files.proofs.RulePartLaws.{starts-rise}
use Rattle.policy.specs.Policy.{Policy}
use Rattle.rule_file.specs.LegalLaws.{both-accepted}
use Rattle.rule_reading.specs.BothFiles.{both_of}
use Rattle.rule_reading.specs.declared.BothFiles.{BothFiles}
use Rattle.rule_show.specs.Located.{place_of, place_or_start}
use Rattle.rule_show.specs.declared.Place.{Place}

-- the number of every refusal is a byte
number-byte : (e : Cause) → number_of e < 256
number-byte too_long = omega arith
number-byte cut_off = omega arith
number-byte unknown_command = omega arith
number-byte out_of_place = omega arith
number-byte beyond = omega arith
number-byte wrong_kind = omega arith
number-byte own_senior = omega arith
number-byte small_scratch = omega arith
number-byte short_output = omega arith
number-byte rules_cut_off = omega arith
number-byte rules_unknown = omega arith
number-byte rules_order = omega arith
number-byte rules_operand = omega arith
number-byte no_such_rule = omega arith
number-byte zero_seed = omega arith
number-byte wrong_shape = omega arith
number-byte wrong_table = omega arith
number-byte wrong_level = omega arith
number-byte wrong_window = omega arith
number-byte ragged_log = omega arith
number-byte bad_cuts = omega arith

pub shown-byte : (file rules : List ℕ) (n : ℕ) → shown_byte 2 file rules n < 256
unfolding shown_byte
shown-byte file rules n = go (show_answer 2 file rules n)
  where
    go : (a : Answer (ℕ × ℕ)) → elim a [ refused e ↦ number_of e | accepted p ↦ 0 ] < 256
    go (refused e) = number-byte e
    go (accepted p) = omega arith

next_start : (rules : List ℕ) (n : ℕ) → rule_start 2 rules (n + 1) ≡ rule_start 2 rules (suc n)
next_start rules n = let e : n + 1 ≡ suc n = omega arith in ap (rule_start 2 rules) e

-- the next rule begins no earlier, and within the file
pub part-within : (rules : List ℕ) (n from to : ℕ) → from ≡ rule_start 2 rules n → to ≡ rule_start 2 rules (n + 1) → (from ≤ to) × (to ≤ length rules)
part-within rules n from to f t =
    let r = starts-rise 2 rules n in
    let u = t ∙ next_start rules n in
    (omega (arith, f, u, r.0), omega (arith, u, r.1))

-- the answer, by what was read
abbrev answered : List ℕ → ℕ → Answer (Policy × List Lines) → Answer Place
answered rules n a = map_answer place_of (and_then a (λ (p : Policy × List Lines). unless (ltb n (length p.1)) no_such_rule (accepted (rule_start 2 rules n, rule_start 2 rules (suc n)))))

-- THE LAWS
module _ (file rules : List ℕ) (n : ℕ) where
  -- a file was refused
  pub refused-so : (e : Cause) → refused e ≡ map_answer both_of (read_both 2 file rules) → refused e ≡ map_answer place_of (show_answer 2 file rules n)
  unfolding show_answer
  refused-so e h = sym (ap (answered rules n) (map-refused both_of e (read_both 2 file rules) h))

  module _ (b : BothFiles) (h : accepted b ≡ map_answer both_of (read_both 2 file rules)) where
    -- the rules are counted
    counted : (p : Policy × List Lines) → b ≡ both_of p → b.rules ≡ length p.1
    unfolding both_of
    counted p m = ap (λ (x : BothFiles). x.rules) m

    by-number : (t : Bool) → ltb n b.rules ≡ t
        → map_answer place_of (unless t no_such_rule (accepted (rule_start 2 rules n, rule_start 2 rules (suc n)))) ≡ map_answer place_of (show_answer 2 file rules n)
    unfolding show_answer
    by-number t e =
        let p = (both-accepted file rules b h).from in
        sym (ap (answered rules n) p.is ∙ ap (λ (y : Bool). map_answer place_of (unless y no_such_rule (accepted (rule_start 2 rules n, rule_start 2 rules (suc n))))) (ap (ltb n) (sym (counted p.value p.made)) ∙ e))

    -- there are not so many rules
    pub beyond-so : b.rules ≤ n → refused no_such_rule ≡ map_answer place_of (show_answer 2 file rules n)
    beyond-so l = by-number false (le-ltb n b.rules l)

    -- rule n is there
    pub there-so : n < b.rules → (from to : ℕ) → from ≡ rule_start 2 rules n → to ≡ rule_start 2 rules (n + 1)
        → accepted (place_of (from, to)) ≡ map_answer place_of (show_answer 2 file rules n)
    there-so l from to f t = ap₂ (λ (x y : ℕ). accepted (place_of (x, y))) f (t ∙ next_start rules n) ∙ by-number true (lt-ltb n b.rules l)

  -- what is told of it: the byte, and where the part begins and ends
  pub told-so : (located : Result Place Refusal) → answer_of located ≡ map_answer place_of (show_answer 2 file rules n)
      → (code_of (answer_of located) ≡ shown_byte 2 file rules n) × (place_or_start located ≡ place_of (shown_place 2 file rules n))
  unfolding shown_byte shown_place
  told-so located h = go located (show_answer 2 file rules n) h
    where
      go : (located : Result Place Refusal) (a : Answer (ℕ × ℕ)) → answer_of located ≡ map_answer place_of a
          → (code_of (answer_of located) ≡ elim a [ refused e ↦ number_of e | accepted p ↦ 0 ]) × (place_or_start located ≡ place_of (elim a [ refused e ↦ (0, 0) | accepted p ↦ p ]))
      go (Ok place) (accepted p) k = (refl, ap (λ (x : Answer Place). elim x [ refused e ↦ place | accepted y ↦ y ]) k)
      go (Ok place) (refused e) k = absurd (number_positive e (sym (ap code_of k)))
      go (Err d) (accepted p) k = absurd (number_positive (cause d) (ap code_of k))
      go (Err d) (refused e) k = (ap code_of k, refl)
