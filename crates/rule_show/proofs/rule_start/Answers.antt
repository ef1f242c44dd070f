use Prim.Native.Nat.{ℕ}
use lib.ListN.{get_or}
use mathlib.Core.List.{List}
use mathlib.Core.Path.{◌≡◌, sym, ◌∙◌}
use native.Mathlib.Omega.{arith}
use Rattle.files.proofs.RulePartLaws.{begun, passed, counted, found, ended}
use Rattle.rule_show.proofs.rule_start.Goals as goal

pub loop-at-init : goal.loop-at-init
loop-at-init c = begun 2 _ _

pub overflow_add-next : goal.overflow_add-next
overflow_add-next c = omega (arith, c.size_of.ensures.1, c.well_formed)

pub returns-then-ahead-eq0 : goal.returns-then-ahead-eq0
returns-then-ahead-eq0 c =
    let source : List ℕ = c.args.rules.now in
    let byte : c.byte_at-b.result ≡ get_or source c.loop-at.at 0 = omega (arith, c.byte_at-b.ensures.0) in
    found 2 source _ _ _ c.loop-at.invariant _ _ c.loop-at-test.true byte c.size_of.ensures.0 (sym c.is_mark.ensures ∙ c.if-is_mark.true) c.if-ahead-eq0.true

pub loop-at-smaller-else-ahead-eq0 : goal.loop-at-smaller-else-ahead-eq0
loop-at-smaller-else-ahead-eq0 c = omega (arith, c.size_of.ensures.0)

pub loop-at-preserved-else-ahead-eq0 : goal.loop-at-preserved-else-ahead-eq0
loop-at-preserved-else-ahead-eq0 c =
    let source : List ℕ = c.args.rules.now in
    let byte : c.byte_at-b.result ≡ get_or source c.loop-at.at 0 = omega (arith, c.byte_at-b.ensures.0) in
    counted 2 source _ _ _ c.loop-at.invariant _ _ c.loop-at-test.true byte c.size_of.ensures.0 (sym c.is_mark.ensures ∙ c.if-is_mark.true) (omega arith)

pub loop-at-smaller : goal.loop-at-smaller
loop-at-smaller c = omega (arith, c.size_of.ensures.0)

pub loop-at-preserved : goal.loop-at-preserved
loop-at-preserved c =
    let source : List ℕ = c.args.rules.now in
    let byte : c.byte_at-b.result ≡ get_or source c.loop-at.at 0 = omega (arith, c.byte_at-b.ensures.0) in
    passed 2 source _ _ _ c.loop-at.invariant _ _ c.loop-at-test.true byte c.size_of.ensures.0 (sym c.is_mark.ensures ∙ c.if-is_mark.false)

pub returns : goal.returns
returns c =
    let source : List ℕ = c.args.rules.now in
    ended 2 source _ _ _ c.loop-at.invariant c.loop-at-test.false
