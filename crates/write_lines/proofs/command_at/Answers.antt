-- Assumes nothing.
use mathlib.Core.Bool.{true, false}
use Rattle.write_lines.proofs.ValueLineLaws.{command-user, command-resource}
use Rattle.write_lines.proofs.command_at.Goals as goal

pub returns-then-set : goal.returns-then-set
returns-then-set c = let a = c.args in command-user a.place a.set true c.if-place-lt-CONJUNCTS.true c.if-set.true

pub returns-then-place-lt-CONJUNCTS : goal.returns-then-place-lt-CONJUNCTS
returns-then-place-lt-CONJUNCTS c = let a = c.args in command-user a.place a.set false c.if-place-lt-CONJUNCTS.true c.if-set.false

pub returns-then-set-2 : goal.returns-then-set-2
returns-then-set-2 c = let a = c.args in command-resource a.place a.set true c.if-place-lt-CONJUNCTS.false c.if-set-2.true

pub returns : goal.returns
returns c = let a = c.args in command-resource a.place a.set false c.if-place-lt-CONJUNCTS.false c.if-set-2.false
