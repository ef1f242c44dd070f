use borrow.Author.Rules.{rules}
use native.Mathlib.Omega.{arith}
use Rattle.grant_grids.proofs.GridLaws.{no_users, no_resources, no_operations, operation-passed, resource-passed, user-passed}
use Rattle.mine_corners.specs.Pairing.{words_in, table_spans}
use Rattle.mine_rows.specs.FirstOtherLaws.{ruled, differs_at, user_agrees, other_at, other_none}
use Rattle.mine_others.proofs.first_other.Goals as goal

pub loop-u-init : goal.loop-u-init
loop-u-init c =
    let a = c.args in
    (search rules, no_users (ruled a.links.now (words_in a.g) a.atoms a.who a.what) (table_spans a.links.now (words_in a.g)) a.sizes.resources a.sizes.operations)

pub loop-u-preserved-then-c-a : goal.loop-u-preserved-then-c-a
loop-u-preserved-then-c-a c =
    let a = c.args in
    (search rules, user_agrees a.links.now (words_in a.g) a.atoms a.who a.what a.sizes.resources a.sizes.operations c.loop-u.u c.row-c.ensures c.row-a.ensures c.loop-u.invariant.1 c.if-c-a.true)

pub loop-r-init : goal.loop-r-init
loop-r-init c =
    let a = c.args in
    (search rules, no_resources (ruled a.links.now (words_in a.g) a.atoms a.who a.what) (table_spans a.links.now (words_in a.g)) a.sizes.operations c.loop-u.u)

pub loop-o-init : goal.loop-o-init
loop-o-init c =
    let a = c.args in
    (search rules, no_operations (ruled a.links.now (words_in a.g) a.atoms a.who a.what) (table_spans a.links.now (words_in a.g)) c.loop-u.u c.loop-r.r)

pub loop-o-preserved : goal.loop-o-preserved
loop-o-preserved c =
    let a = c.args in (
      search rules,
      operation-passed (ruled a.links.now (words_in a.g) a.atoms a.who a.what) (table_spans a.links.now (words_in a.g)) c.loop-u.u c.loop-r.r c.loop-o.o c.loop-o.invariant.1
          (differs_at a.links.now (words_in a.g) a.atoms a.who a.what c.loop-u.u c.loop-r.r c.loop-o.o c.row-c.ensures c.row-a.ensures c.differ_at.ensures)
          c.if-differ_at.false,
    )

pub loop-r-preserved : goal.loop-r-preserved
loop-r-preserved c =
    let a = c.args in
    (search rules, resource-passed (ruled a.links.now (words_in a.g) a.atoms a.who a.what) (table_spans a.links.now (words_in a.g)) a.sizes.operations c.loop-u.u c.loop-r.r c.loop-o.o c.loop-r.invariant.1 c.loop-o.invariant.1 (omega arith))

pub loop-u-preserved : goal.loop-u-preserved
loop-u-preserved c =
    let a = c.args in
    (search rules, user-passed (ruled a.links.now (words_in a.g) a.atoms a.who a.what) (table_spans a.links.now (words_in a.g)) a.sizes.resources a.sizes.operations c.loop-u.u c.loop-r.r c.loop-u.invariant.1 c.loop-r.invariant.1 (omega arith))

pub returns-then-differ_at : goal.returns-then-differ_at
returns-then-differ_at c =
    let a = c.args in
    other_at a.links.now (words_in a.g) a.atoms a.who a.what a.sizes.users a.sizes.resources a.sizes.operations c.loop-u.u c.loop-r.r c.loop-o.o (omega arith) (omega arith) (omega arith)
    c.loop-u.invariant.1 c.loop-r.invariant.1 c.loop-o.invariant.1
    (differs_at a.links.now (words_in a.g) a.atoms a.who a.what c.loop-u.u c.loop-r.r c.loop-o.o c.row-c.ensures c.row-a.ensures c.differ_at.ensures)
    c.if-differ_at.true

pub returns-after-loop-u : goal.returns-after-loop-u
returns-after-loop-u c =
    let a = c.args in
    other_none a.links.now (words_in a.g) a.atoms a.who a.what a.sizes.users a.sizes.resources a.sizes.operations c.loop-u.u c.loop-u.invariant.1 (omega arith)

pub triples-init : goal.triples-init
triples-init c = tt
