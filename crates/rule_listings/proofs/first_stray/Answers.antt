use mathlib.Core.Path.{sym, ◌∙◌}
use native.Mathlib.Omega.{arith}
use Rattle.rule_listings.specs.ListedLaws.{stray_begin, stray_skip, stray_next, stray_found, stray_end}
use Rattle.role_record.specs.Cells.{row_start}
use Rattle.sets.specs.LoopLaws.{turn-within}
use Rattle.rule_listings.proofs.first_stray.Invariants.{is_one, listed_once}
use Rattle.rule_listings.proofs.first_stray.Goals as goal

pub loop-w-init : goal.loop-w-init
loop-w-init c =
    let a = c.args in
    (omega arith, omega arith, stray_begin a.f.now.holders a.f.now.permissions a.f.now.roles a.f.now.operations a.seen.now a.again.now)

pub loop-w-preserved-then-not-is_part : goal.loop-w-preserved-then-not-is_part
loop-w-preserved-then-not-is_part c =
    let a = c.args in (
      turn-within c.loop-w.w (row_start a.f.now.roles) c.loop-w-test.true,
      omega (arith, c.loop-w.invariant.1),
      stray_skip (is_one a.f.now.holders a.f.now.permissions a.f.now.operations) (listed_once a.seen.now a.again.now) c.loop-w.number c.loop-w.w (row_start a.f.now.roles) _ c.loop-w-test.true c.loop-w.invariant.2
          (sym c.is_part.ensures ∙ c.if-not-is_part.true),
    )

pub returns-then-not-once : goal.returns-then-not-once
returns-then-not-once c =
    let a = c.args in
    stray_found (is_one a.f.now.holders a.f.now.permissions a.f.now.operations) (listed_once a.seen.now a.again.now) c.loop-w.number c.loop-w.w (row_start a.f.now.roles) _ c.loop-w-test.true c.loop-w.invariant.2
    (sym c.is_part.ensures ∙ c.if-not-is_part.false)
    (sym c.once.ensures ∙ c.if-not-once.true)

pub loop-w-preserved : goal.loop-w-preserved
loop-w-preserved c =
    let a = c.args in (
      turn-within c.loop-w.w (row_start a.f.now.roles) c.loop-w-test.true,
      omega (arith, c.loop-w.invariant.1),
      stray_next (is_one a.f.now.holders a.f.now.permissions a.f.now.operations) (listed_once a.seen.now a.again.now) c.loop-w.number c.loop-w.w (row_start a.f.now.roles) _ c.loop-w-test.true c.loop-w.invariant.2
          (sym c.is_part.ensures ∙ c.if-not-is_part.false)
          (sym c.once.ensures ∙ c.if-not-once.false),
    )

pub returns : goal.returns
returns c =
    let a = c.args in
    stray_end (is_one a.f.now.holders a.f.now.permissions a.f.now.operations) (listed_once a.seen.now a.again.now) c.loop-w.number c.loop-w.w (row_start a.f.now.roles) _ c.loop-w-test.false c.loop-w.invariant.2
