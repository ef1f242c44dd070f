use Prim.Native.Nat.{ℕ}
use borrow.Author.Count.{below_none, below_more}
use borrow.Author.Rules.{rules}
use lib.ListN.{get_or}
use mathlib.Core.Bool.{false}
use mathlib.Core.Path.{◌≡◌, sym, ◌∙◌}
use native.Mathlib.Omega.{arith}
use Rattle.role_circles.specs.BackLaws.{lowest-found, lowest-end}
use Rattle.sets.specs.Sets.{bit}
use Rattle.role_circles.proofs.fewest.Goals as goal

pub loop-m-init : goal.loop-m-init
loop-m-init c = (search rules, below_none _)

pub returns-then-has : goal.returns-then-has
returns-then-has c =
    let a = c.args in
    lowest-found (λ x. bit (get_or a.back.now x 0) a.low) c.loop-m.m a.most (omega arith) c.loop-m.invariant.1 (sym c.has.ensures ∙ c.if-has.true)

pub loop-m-preserved : goal.loop-m-preserved
loop-m-preserved c =
    let a = c.args in
    (search rules, below_more (λ (x : ℕ). bit (get_or a.back.now x 0) a.low ≡ false) c.loop-m.m c.loop-m.invariant.1 (sym c.has.ensures ∙ c.if-has.false))

pub returns : goal.returns
returns c =
    let a = c.args in
    lowest-end (λ x. bit (get_or a.back.now x 0) a.low) c.loop-m.m a.most (omega arith) c.loop-m.invariant.1
