use borrow.Author.Rules.{rules}
use mathlib.Core.Path.{sym, ap, ◌∙◌}
use native.Mathlib.Omega.{arith}
use Rattle.mine_matches.specs.Matches.{both_members}
use Rattle.sets.specs.Sets.{less_one}
use Rattle.sets.specs.MemberLaws.{least_in, less-less}
use Rattle.mine_widen.specs.MetLaws.{adds-begin, adds-turn, adds-end}
use Rattle.mine_widen.proofs.add_members.Goals as goal

pub loop-left-init : goal.loop-left-init
loop-left-init c = let a = c.args in (search rules, search rules, (λ m h. adds-begin a.matches.now a.side a.met.now m a.members h))

pub add_member-requires : goal.add_member-requires
add_member-requires c =
    let turn = c.loop-left in
    let t = least_in turn.left turn.invariant.0 _ c.least.ensures c.loop-left-test.true in
    (search rules, t.0, turn.invariant.1)

pub loop-left-smaller : goal.loop-left-smaller
loop-left-smaller c =
    let left = c.loop-left.left in
    let t = least_in left c.loop-left.invariant.0 _ c.least.ensures c.loop-left-test.true in
    let l = less-less left c.loop-left.invariant.0 _ t.1 in
    let e = c.without_least-left.ensures ∙ ap (less_one left) (sym c.least.ensures) in
    omega arith

pub loop-left-preserved : goal.loop-left-preserved
loop-left-preserved c =
    let turn = c.loop-left in
    let a = c.args in
    let t = least_in turn.left turn.invariant.0 _ c.least.ensures c.loop-left-test.true in (
      search rules,
      c.add_member.ensures.0,
      (λ m h. adds-turn a.matches.now a.side turn.met c.add_member.new.met turn.left c.without_least-left.result (both_members m a.members) c.least.result turn.invariant.0 t.0 t.1 c.add_member.ensures.1
          (c.without_least-left.ensures ∙ ap (less_one turn.left) (sym c.least.ensures)) (turn.invariant.2 m h)),
    )

pub returns : goal.returns
returns c =
    let end = c.loop-left in
    let a = c.args in
    (end.invariant.1, λ m h. adds-end a.matches.now a.side end.met end.left (both_members m a.members) (omega arith) (end.invariant.2 m h))
