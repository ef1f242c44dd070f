use Rattle.std.proofs.Common.{ℕ, ◌+◌, drop, rules, sym, ap, ◌∙◌}
use Rattle.digits.specs.Digits.{read_digits}
use Rattle.digits.specs.DigitLaws.{digit-least, nothing-given, reading_begins, digit-read, other-read, reading-ends}
use Rattle.digits.proofs.number_in.Goals as goal

pub returns-then-is_empty : goal.returns-then-is_empty
returns-then-is_empty c = nothing-given _ _ (search rules)

pub loop-c-init : goal.loop-c-init
loop-c-init c = (search rules, reading_begins _ _ (search rules))

pub returns-then-not-is_digit : goal.returns-then-not-is_digit
returns-then-not-is_digit c =
    let l = c.loop-c in
    sym (other-read _ c.args.text.now l.n l.c-index (search rules) (sym c.is_digit.ensures ∙ c.if-not-is_digit.true)) ∙ l.invariant.1

pub with_digit-n-requires : goal.with_digit-n-requires
with_digit-n-requires c = (search rules, digit-least _ (sym c.is_digit.ensures ∙ c.if-not-is_digit.false))

pub loop-c-preserved : goal.loop-c-preserved
loop-c-preserved c =
    let l = c.loop-c in
    let s = c.args.text.now in
    let last = c.args.last in
    (search rules, ap (λ (m : ℕ). read_digits last m (drop (l.c-index + 1) s)) c.with_digit-n.ensures ∙ sym (digit-read last s l.n l.c-index (search rules) (sym c.is_digit.ensures ∙ c.if-not-is_digit.false)) ∙ l.invariant.1)

pub returns : goal.returns
returns c =
    let l = c.loop-c in
    sym (reading-ends _ c.args.text.now l.n l.c-index (search rules)) ∙ l.invariant.1
