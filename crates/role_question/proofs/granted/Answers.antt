use borrow.Author.Rules.{rules}
use mathlib.Core.Path.{sym, ◌∙◌}
use native.Mathlib.Omega.{arith}
use Rattle.sets.specs.LoopLaws.{any-on, any_found, any-end}
use Rattle.role_question.proofs.granted.Invariants.{by-role}
use Rattle.role_question.proofs.granted.Goals as goal

pub returns-then-in_both : goal.returns-then-in_both
returns-then-in_both c =
    let a = c.args in
    sym (any_found (by-role a.holders.now a.permissions.now a.user a.resource a.operation) c.loop-k.k a.roles (omega arith) (sym c.in_both.ensures ∙ c.if-in_both.true))

pub loop-k-preserved : goal.loop-k-preserved
loop-k-preserved c =
    let a = c.args in
    let turn = c.loop-k in
    (search rules, any-on (by-role a.holders.now a.permissions.now a.user a.resource a.operation) turn.k turn.invariant.1 (sym c.in_both.ensures ∙ c.if-in_both.false))

pub returns : goal.returns
returns c =
    let a = c.args in
    sym (any-end (by-role a.holders.now a.permissions.now a.user a.resource a.operation) c.loop-k.k a.roles c.loop-k.invariant.1 (omega arith))
