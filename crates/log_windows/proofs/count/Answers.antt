use Prim.Native.Nat.{ℕ, ◌+◌, ◌-◌, min}
use borrow.Author.Rules.{rules}
use mathlib.Core.Path.{◌≡◌, sym, ap, ◌∙◌}
use native.Mathlib.Omega.{arith}
use Rattle.files.specs.Denials.{denied_by}
use Rattle.files.proofs.WindowLaws.{none_yet, counted-few, worse, no_worse}
use Rattle.files.specs.Windows.{plain_count}
use Rattle.grant_grids.specs.Grid.{in_grid}
use Rattle.log_windows.specs.CountingLaws.{one-comes, leaves_some, next-count, so, Within, has_cell, within_none, within-next, one-beyond, all-counted}
use Rattle.sets.specs.LoopLaws.{turn-within}
use Rattle.log_windows.proofs.count.Goals as goal
use Rattle.log_windows.proofs.count.Goals.{After-leaving-counted, Else-not-within, else-most-counted, then-most-counted}

-- the records up to this one are within the sizes
seen : (c : Else-not-within) → let a = c.args in Within a.sizes a.log.now (c.loop-i.i + 1)
seen c =
    let a = c.args in
    within-next a.sizes a.log.now c.loop-i.i c.loop-i.invariant.1 (sym c.within.ensures ∙ c.if-not-within.false)

-- the count of the window that this record ends
counts : (c : After-leaving-counted)
    → let a = c.args in
    (c.loop-i.counted + c.denied-counted.result) - c.leaving-counted.result ≡ plain_count (denied_by (in_grid a.grid.now) a.log.now) ((c.loop-i.i + 1) - a.window) (min a.window (c.loop-i.i + 1))
counts c =
    ap (λ (x : ℕ). (c.loop-i.counted + c.denied-counted.result) - x) c.leaving-counted.ensures ∙ next-count _ _ _ _ _ _ _ c.loop-i.invariant.2 c.denied-counted.ensures

pub loop-i-init : goal.loop-i-init
loop-i-init c = let a = c.args in (search rules, within_none a.sizes a.log.now, none_yet (denied_by (in_grid a.grid.now) a.log.now) a.window)

pub within-requires : goal.within-requires
within-requires c = omega (arith, c.loop-i-test.true)

pub returns-then-not-within : goal.returns-then-not-within
returns-then-not-within c =
    let a = c.args in
    one-beyond a.sizes a.log.now (in_grid a.grid.now) a.window c.loop-i.i c.loop-i-test.true (sym c.within.ensures ∙ c.if-not-within.true)

pub denied-counted-requires : goal.denied-counted-requires
denied-counted-requires c =
    let a = c.args in
    let cell = has_cell a.sizes a.log.now (c.loop-i.i + 1) c.loop-i.i _ (omega arith) c.requires.0 c.requires.1 (seen c) in
    (omega (arith, c.loop-i-test.true), cell)

pub overflow_add-counted : goal.overflow_add-counted
overflow_add-counted c =
    let few = counted-few _ _ _ _ _ _ c.loop-i.invariant.2 in
    let a = c.args in
    let one = one-comes (denied_by (in_grid a.grid.now) a.log.now c.loop-i.i) _ c.denied-counted.ensures in
    omega (arith, few, one, c.loop-i-test.true)

pub leaving-counted-requires : goal.leaving-counted-requires
leaving-counted-requires c =
    let a = c.args in
    let cell = has_cell a.sizes a.log.now (c.loop-i.i + 1) (c.loop-i.i - a.window) _ (omega arith) c.requires.0 c.requires.1 (seen (goal.at.leaving-counted-requires c).Else-not-within) in
    (omega (arith, c.loop-i-test.true), cell)

pub overflow_sub-counted : goal.overflow_sub-counted
overflow_sub-counted c =
    let some = leaves_some _ _ _ _ _ _ _ c.loop-i.invariant.2 c.denied-counted.ensures in
    omega (arith, some, c.leaving-counted.ensures)

pub loop-i-preserved : goal.loop-i-preserved
loop-i-preserved c =
    let first = c.start_of-first.ensures in (
      turn-within c.loop-i.i _ c.loop-i-test.true,
      seen (goal.at.loop-i-preserved c).Else-not-within,
      elim c.if-most-counted.branch [ then-most-counted w ↦ so _ _ _ _ _ _ _ _ w.most-is (w.start-is ∙ first) (worse _ _ _ _ _ _ c.loop-i.invariant.2 _ (counts (goal.at.loop-i-preserved c).After-leaving-counted) w.if-most-counted.true) | else-most-counted w ↦ so _ _ _ _ _ _ _ _ w.most-is w.start-is (no_worse _ _ _ _ _ _ c.loop-i.invariant.2 _ (counts (goal.at.loop-i-preserved c).After-leaving-counted) w.if-most-counted.false) ],
    )

pub returns : goal.returns
returns c =
    let a = c.args in
    all-counted a.sizes a.log.now (in_grid a.grid.now) a.window c.loop-i.i _ _ _ c.loop-i.invariant.1 c.loop-i.invariant.2 (omega (arith, c.loop-i-test.false, c.loop-i.invariant.0))
