use borrow.Author.Count.{below_none}
use borrow.Author.Rules.{rules}
use lib.ListN.{get_or}
use mathlib.Core.Path.{refl}
use native.Mathlib.Omega.{arith}
use Rattle.role_seniority.specs.Closure.{passed_by}
use Rattle.role_seniority.specs.ClosureLaws.{passed-unique, pass_word}
use Rattle.sets.specs.LoopLaws.{store_next, store_rest}
use Rattle.role_seniority.proofs.pass.Goals as goal

pub loop-i-init : goal.loop-i-init
loop-i-init c = (search rules, search rules, below_none _, λ j h. refl)

pub loop-i-preserved : goal.loop-i-preserved
loop-i-preserved c =
    let turn = c.loop-i in
    let l = c.args.t.now in (
      search rules,
      search rules,
      store_next turn.t turn.i c.through.result (passed_by l c.args.n) turn.invariant.2
          (pass_word l c.args.n turn.i (get_or turn.t turn.i 0) c.through.result (turn.invariant.3 turn.i (omega arith)) c.through.ensures)
          (omega arith),
      store_rest turn.t l turn.i c.through.result turn.invariant.3,
    )

pub returns : goal.returns
returns c =
    passed-unique c.args.t.now c.loop-i.t c.args.n c.loop-i.invariant.1 (λ j l. c.loop-i.invariant.2 j (omega arith))
