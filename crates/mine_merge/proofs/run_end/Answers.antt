-- A byte is a number, and a cut is that of a role. Assumes nothing.
use borrow.Author.Tests.{lt-ltb, le-ltb}
use lib.ListN.{length, get_or}
use mathlib.Core.Bool.{Bool, cond}
use mathlib.Core.Path.{sym, ap}
use native.Mathlib.Omega.{arith}
use Rattle.mine_groups.specs.Scratch.{all_parts}
use Rattle.mine_merge.proofs.run_end.Goals as goal

pub overflow_cast-result : goal.overflow_cast-result
overflow_cast-result c = omega (arith, c.type_inv.cuts c.args.run)

pub offset_bounds-starts-cuts : goal.offset_bounds-starts-cuts
offset_bounds-starts-cuts c = omega (arith, c.type_inv.cuts c.args.run)

pub bounds-starts-cuts : goal.bounds-starts-cuts
bounds-starts-cuts c = let low = c.requires c.if-run-cuts.true in omega (arith, low)

pub returns-then-run-cuts : goal.returns-then-run-cuts
returns-then-run-cuts c =
    let a = c.args in
    sym (ap (λ (b : Bool). cond b (get_or a.starts.now (get_or a.cuts.now a.run 0) 0) (all_parts a.starts.now)) (lt-ltb a.run (length a.cuts.now) c.if-run-cuts.true))

pub returns : goal.returns
returns c =
    let a = c.args in
    sym (ap (λ (b : Bool). cond b (get_or a.starts.now (get_or a.cuts.now a.run 0) 0) (all_parts a.starts.now)) (le-ltb a.run (length a.cuts.now) c.if-run-cuts.false))
