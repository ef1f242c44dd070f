use Prim.Native.Nat.{ℕ}
use mathlib.Core.Path.{sym, ap, ◌∙◌}
use native.Mathlib.Omega.{arith}
use Rattle.mine_matches.specs.Matches.{met_of}
use Rattle.sets.specs.MemberLaws.{least_in, less-less, join-begin, join-turn, join-done}
use Rattle.sets.specs.Sets.{joining, bit, mask_of, less_one}
use borrow.Author.Rules.{rules}
use Rattle.mine_matches.proofs.met_by.Invariants.{word}
use Rattle.mine_matches.proofs.met_by.Goals as goal

pub loop-rest-init : goal.loop-rest-init
unfolding met_of
loop-rest-init start = (search rules, search rules, join-begin start.args.members (word start.args.matches.now start.args.place))

pub overflow_add-place : goal.overflow_add-place
overflow_add-place c = let t = least_in c.loop-rest.rest c.loop-rest.invariant.1 _ c.least-y.ensures c.loop-rest-test.true in omega arith

pub offset_bounds-matches-place : goal.offset_bounds-matches-place
offset_bounds-matches-place c = let t = least_in c.loop-rest.rest c.loop-rest.invariant.1 _ c.least-y.ensures c.loop-rest-test.true in omega arith

pub bounds-matches-place : goal.bounds-matches-place
bounds-matches-place c = let t = least_in c.loop-rest.rest c.loop-rest.invariant.1 _ c.least-y.ensures c.loop-rest-test.true in omega arith

pub loop-rest-smaller : goal.loop-rest-smaller
loop-rest-smaller c =
    let rest = c.loop-rest.rest in
    let t = least_in rest c.loop-rest.invariant.1 _ c.least-y.ensures c.loop-rest-test.true in
    let l = less-less rest c.loop-rest.invariant.1 _ t.1 in
    let e = c.without_least-rest.ensures ∙ ap (less_one rest) (sym c.least-y.ensures) in
    omega arith

pub loop-rest-preserved : goal.loop-rest-preserved
loop-rest-preserved c =
    let turn = c.loop-rest in
    let a = c.args in
    let t = least_in turn.rest turn.invariant.1 _ c.least-y.ensures c.loop-rest-test.true in (
      search rules,
      search rules,
      ap (λ (m : ℕ). mask_of 64 (joining c.union-met.result (bit m) (word a.matches.now a.place) 64)) (c.without_least-rest.ensures ∙ ap (less_one turn.rest) (sym c.least-y.ensures))
          ∙ join-turn turn.rest turn.invariant.1 (word a.matches.now a.place) c.least-y.result turn.met c.union-met.result t.0 t.1 c.union-met.ensures
          ∙ turn.invariant.2,
    )

pub returns : goal.returns
returns c =
    let end = c.loop-rest in
    let a = c.args in
    sym (join-done (word a.matches.now a.place) end.rest end.met end.invariant.0 (omega arith)) ∙ end.invariant.2
