use Prim.Native.Nat.{◌+◌}
use borrow.Author.Rules.{rules}
use lib.ListN.{length}
use mathlib.Core.Path.{ap, ◌∙◌}
use native.Mathlib.Omega.{arith}
use Rattle.grant_grids.specs.Grid.{granted_by}
use Rattle.grant_grids.proofs.GridLaws.{grid_long, no_triples}
use Rattle.grant_grids.proofs.UpdateLaws.{roles-none, roles-next, roles-end}
use Rattle.sets.specs.LoopLaws.{turn-within}
use Rattle.grant_grids.proofs.roles_grid.Goals as goal

pub loop-k-init : goal.loop-k-init
loop-k-init c =
    let a = c.args in
    let none = roles-none a.operations a.holders.now a.permissions.now c.clear.new.out (no_triples a.operations a.out.now c.clear.new.out c.requires.2 c.clear.ensures) in
    (search rules, ap length none ∙ grid_long a.operations (granted_by a.holders.now a.permissions.now 0), none)

pub loop-k-preserved : goal.loop-k-preserved
loop-k-preserved c =
    let turn = c.loop-k in
    let a = c.args in
    let n = c.requires.1 in
    let next = roles-next a.operations a.holders.now a.permissions.now turn.k c.below-all.result turn.out _ (omega (arith, n)) turn.invariant.2 c.below-all.ensures c.add_part.ensures in (
      turn-within turn.k a.roles c.loop-k-test.true,
      ap length next ∙ grid_long a.operations (granted_by a.holders.now a.permissions.now (turn.k + 1)),
      next,
    )

pub returns : goal.returns
returns c =
    let a = c.args in
    roles-end a.operations a.holders.now a.permissions.now c.loop-k.k a.roles c.loop-k.out c.loop-k.invariant.2 (omega arith)
