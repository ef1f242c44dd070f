use borrow.Author.Rules.{rules}
use lib.ListN.{get_or}
use mathlib.Core.Path.{sym, ◌∙◌}
use native.Mathlib.Omega.{arith}
use Rattle.role_seniority.specs.Closure.{held_by}
use Rattle.sets.specs.LoopLaws.{turn-within, join-none, join_in, join-out, join-end}
use Rattle.sets.specs.Sets.{bit}
use Rattle.role_seniority.proofs.held.Goals as goal
use Rattle.role_seniority.proofs.held.Goals.{else-has, then-has}

pub loop-j-init : goal.loop-j-init
loop-j-init start = (search rules, join-none start.args.own (bit start.args.seniors) (λ x. get_or start.args.assigned.now x 0) start.ranges.own.fits)

pub loop-j-preserved : goal.loop-j-preserved
loop-j-preserved c =
    let turn = c.loop-j in (
      turn-within turn.j c.args.roles c.loop-j-test.true,
      elim c.if-has.branch [
        | then-has w ↦ join_in c.args.own (bit c.args.seniors) (λ x. get_or c.args.assigned.now x 0) turn.j turn.users _ turn.invariant.1
            (sym c.has.ensures ∙ w.if-has.true) (w.users-is ∙ w.union-users.ensures)
        | else-has w ↦ join-out c.args.own (bit c.args.seniors) (λ x. get_or c.args.assigned.now x 0) turn.j turn.users _ turn.invariant.1
            (sym c.has.ensures ∙ w.if-has.false) w.users-is
      ],
    )

pub returns : goal.returns
unfolding held_by
returns c =
    join-end c.args.own (bit c.args.seniors) (λ x. get_or c.args.assigned.now x 0) c.loop-j.j c.args.roles c.loop-j.users c.loop-j.invariant.1 (omega arith)
