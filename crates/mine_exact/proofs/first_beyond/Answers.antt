use borrow.Author.Rules.{rules}
use mathlib.Core.Path.{sym, ◌∙◌}
use native.Mathlib.Omega.{arith}
use Rattle.grant_grids.proofs.GridLaws.{no_users, no_resources, no_operations, operation-passed, resource-passed, user-passed}
use Rattle.sets.specs.LoopLaws.{turn-within}
use Rattle.mine_corners.specs.Pairing.{words_in, covered, grouped}
use Rattle.mine_exact.specs.PairingLaws.{differs_at, user-skipped, user_agrees, beyond-at, beyond-none}
use Rattle.mine_exact.proofs.first_beyond.Goals as goal

pub loop-u-init : goal.loop-u-init
loop-u-init c =
    let a = c.args in
    (search rules, no_users (covered a.links.now (words_in a.g) (words_in a.h) a.who a.what) (grouped a.links.now (words_in a.g) (words_in a.h)) a.sizes.resources a.sizes.operations)

pub loop-u-preserved-then-not-has : goal.loop-u-preserved-then-not-has
loop-u-preserved-then-not-has c =
    let a = c.args in (
      turn-within c.loop-u.u a.sizes.users c.loop-u-test.true,
      user-skipped a.links.now (words_in a.g) (words_in a.h) a.who a.what a.among a.sizes.users a.sizes.resources a.sizes.operations c.loop-u.u c.requires.0.1 (omega (arith, c.requires.0.2)) c.loop-u-test.true
          c.requires.1 (sym c.has.ensures ∙ c.if-not-has.true) c.loop-u.invariant.1,
    )

pub loop-u-preserved-then-agree : goal.loop-u-preserved-then-agree
loop-u-preserved-then-agree c =
    let a = c.args in (
      turn-within c.loop-u.u a.sizes.users c.loop-u-test.true,
      user_agrees a.links.now (words_in a.g) (words_in a.h) a.who a.what a.sizes.resources a.sizes.operations c.loop-u.u (omega arith) (omega arith)
          (record { operations = c.union-all.ensures; links_of_both = c.meet-atoms.ensures; of-cover = c.row-c.ensures; of-first = c.row-a.ensures; of-second = c.row-b.ensures })
          c.loop-u.invariant.1 c.agree.ensures c.if-agree.true,
    )

pub loop-r-init : goal.loop-r-init
loop-r-init c =
    let a = c.args in
    (search rules, no_resources (covered a.links.now (words_in a.g) (words_in a.h) a.who a.what) (grouped a.links.now (words_in a.g) (words_in a.h)) a.sizes.operations c.loop-u.u)

pub loop-o-init : goal.loop-o-init
loop-o-init c =
    let a = c.args in
    (search rules, no_operations (covered a.links.now (words_in a.g) (words_in a.h) a.who a.what) (grouped a.links.now (words_in a.g) (words_in a.h)) c.loop-u.u c.loop-r.r)

pub loop-o-preserved : goal.loop-o-preserved
loop-o-preserved c =
    let a = c.args in (
      search rules,
      operation-passed (covered a.links.now (words_in a.g) (words_in a.h) a.who a.what) (grouped a.links.now (words_in a.g) (words_in a.h)) c.loop-u.u c.loop-r.r c.loop-o.o c.loop-o.invariant.1
          (differs_at a.links.now (words_in a.g) (words_in a.h) a.who a.what c.loop-u.u c.loop-r.r c.loop-o.o
          (record { operations = c.union-all.ensures; links_of_both = c.meet-atoms.ensures; of-cover = c.row-c.ensures; of-first = c.row-a.ensures; of-second = c.row-b.ensures })
          c.differ_at.ensures)
          c.if-differ_at.false,
    )

pub loop-r-preserved : goal.loop-r-preserved
loop-r-preserved c =
    let a = c.args in
    (search rules, resource-passed (covered a.links.now (words_in a.g) (words_in a.h) a.who a.what) (grouped a.links.now (words_in a.g) (words_in a.h)) a.sizes.operations c.loop-u.u c.loop-r.r c.loop-o.o c.loop-r.invariant.1 c.loop-o.invariant.1 (omega arith))

pub loop-u-preserved : goal.loop-u-preserved
loop-u-preserved c =
    let a = c.args in
    (search rules, user-passed (covered a.links.now (words_in a.g) (words_in a.h) a.who a.what) (grouped a.links.now (words_in a.g) (words_in a.h)) a.sizes.resources a.sizes.operations c.loop-u.u c.loop-r.r c.loop-u.invariant.1 c.loop-r.invariant.1 (omega arith))

pub returns-then-differ_at : goal.returns-then-differ_at
returns-then-differ_at c =
    let a = c.args in
    beyond-at a.links.now (words_in a.g) (words_in a.h) a.who a.what a.sizes.users a.sizes.resources a.sizes.operations c.loop-u.u c.loop-r.r c.loop-o.o c.loop-u-test.true (omega arith) (omega arith)
    c.loop-u.invariant.1 c.loop-r.invariant.1 c.loop-o.invariant.1
    (differs_at a.links.now (words_in a.g) (words_in a.h) a.who a.what c.loop-u.u c.loop-r.r c.loop-o.o
    (record { operations = c.union-all.ensures; links_of_both = c.meet-atoms.ensures; of-cover = c.row-c.ensures; of-first = c.row-a.ensures; of-second = c.row-b.ensures })
    c.differ_at.ensures)
    c.if-differ_at.true

pub returns-after-loop-u : goal.returns-after-loop-u
returns-after-loop-u c =
    let a = c.args in
    beyond-none a.links.now (words_in a.g) (words_in a.h) a.who a.what a.sizes.users a.sizes.resources a.sizes.operations c.loop-u.u c.loop-u.invariant.1 (omega arith)

pub triples-init : goal.triples-init
triples-init c = tt
