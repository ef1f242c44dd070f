use Prim.Native.Nat.{ℕ}
use borrow.Author.Rules.{rules}
use mathlib.Core.Path.{sym, ap, ◌∙◌}
use native.Mathlib.Omega.{arith}
use Rattle.sets.specs.MemberLaws.{least_in, less-less}
use Rattle.sets.specs.Sets.{bit, less_one}
use Rattle.grant_links.specs.LinkedLaws.{atoms-cut, cut_low, less-low}
use Rattle.mine_rows.specs.RowLaws.{rows_begin, rows_turn, rows_end}
use Rattle.mine_rows.proofs.joined_rows.Goals as goal

pub loop-rest-init : goal.loop-rest-init
loop-rest-init c =
    let a = c.args in
    let e = atoms-cut a.atoms c.below.result c.meet-rest.result c.below.ensures c.meet-rest.ensures in
    (search rules, search rules, cut_low a.atoms c.meet-rest.result e, rows_begin a.links.now a.atoms _ c.meet-rest.result c.widen_rows.ensures e)

pub narrow_rows-requires : goal.narrow_rows-requires
narrow_rows-requires c =
    let turn = c.loop-rest in
    turn.invariant.2 _ (least_in turn.rest turn.invariant.0 _ c.least.ensures c.loop-rest-test.true).1

pub loop-rest-smaller : goal.loop-rest-smaller
loop-rest-smaller c =
    let rest = c.loop-rest.rest in
    let t = least_in rest c.loop-rest.invariant.0 _ c.least.ensures c.loop-rest-test.true in
    let l = less-less rest c.loop-rest.invariant.0 _ t.1 in
    let e = c.without_least-rest.ensures ∙ ap (less_one rest) (sym c.least.ensures) in
    omega arith

pub loop-rest-preserved : goal.loop-rest-preserved
loop-rest-preserved c =
    let turn = c.loop-rest in
    let a = c.args in
    let t = least_in turn.rest turn.invariant.0 _ c.least.ensures c.loop-rest-test.true in
    let e = c.without_least-rest.ensures ∙ ap (less_one turn.rest) (sym c.least.ensures) in (
      search rules,
      search rules,
      λ i k. less-low turn.rest turn.invariant.0 c.least.result turn.invariant.2 i (sym (ap (λ (m : ℕ). bit m i) e) ∙ k),
      rows_turn a.links.now a.atoms turn.out _ turn.rest turn.invariant.0 c.least.result (turn.invariant.2 _ t.1) t.1 c.narrow_rows.ensures c.without_least-rest.result e turn.invariant.3,
    )

pub returns : goal.returns
returns c =
    let end = c.loop-rest in
    let a = c.args in
    rows_end a.links.now a.atoms end.out end.rest end.invariant.1 (omega arith) end.invariant.3
