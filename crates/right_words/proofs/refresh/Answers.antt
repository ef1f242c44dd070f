use Prim.Native.Nat.{ℕ, ◌+◌, ◌<◌}
use borrow.Author.Rules.{rules}
use mathlib.Core.Path.{ap, ◌∙◌}
use native.Mathlib.Omega.{arith}
use Rattle.grant_grids.proofs.UpdateLaws.{span_none, span-next, span-long}
use Rattle.right_words.specs.Rights.{word_by}
use Rattle.right_words.specs.RightLaws.{afresh, held_low, word-afresh, row_done}
use Rattle.role_record.specs.Cells.{row_cells, row_start, user_cells}
use Rattle.sets.specs.LoopLaws.{turn-within}
use Rattle.right_words.proofs.refresh.Goals as goal

pub loop-o-init : goal.loop-o-init
loop-o-init c =
    let a = c.args in
    (search rules, search rules, span_none user_cells (afresh a.sizes a.holders.now a.permissions.now) a.table.now (row_start a.user) (search rules))

pub word-requires : goal.word-requires
word-requires c =
    let a = c.args in
    let low = held_low a.sizes c.requires.0 a.holders.now a.permissions.now a.user in
    let e = c.held_within-held.ensures in
    (omega (arith, low, e), omega (arith, c.loop-o-test.true), c.requires.0)

pub loop-o-preserved : goal.loop-o-preserved
loop-o-preserved c =
    let a = c.args in
    let turn = c.loop-o in
    let within : turn.o < row_cells = omega (arith, c.loop-o-test.true) in
    let held = c.held_within-held in
    let found = c.word.ensures ∙ ap (λ (m : ℕ). word_by a.sizes m a.permissions.now turn.o) held.ensures in
    let next = span-next user_cells (afresh a.sizes a.holders.now a.permissions.now) a.table.now (row_start a.user) turn.o turn.table c.word.result (omega arith) turn.invariant.2
    (word-afresh a.sizes a.holders.now a.permissions.now a.user turn.o c.word.result c.requires.0 within found) in (
      turn-within turn.o row_cells within,
      span-long user_cells (afresh a.sizes a.holders.now a.permissions.now) a.table.now (row_start a.user) (turn.o + 1) _ next,
      next,
    )

pub returns : goal.returns
returns c =
    let a = c.args in
    let end = c.loop-o in
    row_done a.sizes a.holders.now a.permissions.now a.user end.o a.table.now end.table end.invariant.2 (omega arith)
