use Prim.Native.Nat.{suc, ◌≤◌}
use mathlib.Core.Path.{refl, ◌∙◌}
use native.Mathlib.Omega.{arith}
use Rattle.mine_groups.specs.Scratch.{all_parts}
use Rattle.mine_merge.proofs.HeadCountLaws.{heads-most}
use Rattle.mine_merge.proofs.RunLaws.{alone-leads, cut_low, edge-low, runs_begin, runs_next, runs_end}
use Rattle.mine_merge.proofs.merge_runs.Goals as goal
use Rattle.mine_merge.proofs.merge_runs.Goals.{After-merge_within-arg-1}

-- a run ends in scratch
ends_low : (c : After-merge_within-arg-1) → c.run_end-end.result ≤ all_parts c.args.starts.now
ends_low c =
    let a = c.args in
    let e = c.run_end-end.ensures in
    let low = edge-low a.cuts.now a.starts.now a.sizes.roles c.requires.3 c.requires.0.3 c.requires.4.begun (suc c.loop-run.run) in
    omega (arith, e, low)

pub returns-then-cuts-eq0 : goal.returns-then-cuts-eq0
returns-then-cuts-eq0 c =
    let a = c.args in
    (refl, omega arith, (λ F Z P T. alone-leads F a.cuts.now (all_parts a.starts.now) (omega (arith, c.if-cuts-eq0.true)) T), λ i. refl)

pub loop-run-init : goal.loop-run-init
loop-run-init c =
    let a = c.args in
    (omega arith, refl, omega arith, (λ F Z P T. runs_begin F a.cuts.now a.starts.now T), λ i. refl)

pub run_end-end-requires : goal.run_end-end-requires
run_end-end-requires c l =
    let a = c.args in
    cut_low a.cuts.now a.starts.now a.sizes.roles c.requires.3 c.requires.0.3 c.loop-run.run l

pub merge_within-made-requires : goal.merge_within-made-requires
merge_within-made-requires c =
    let p = c.requires in
    let low = ends_low c in
    let room = p.4.room in
    (p.0, p.1, p.2, omega (arith, low, room, c.loop-run.invariant.1))

pub overflow_add-made : goal.overflow_add-made
overflow_add-made c =
    let most = heads-most c.args.scratch.now in
    omega (arith, most, c.merge_within-made.ensures.1, c.loop-run.invariant.2)

pub loop-run-preserved : goal.loop-run-preserved
loop-run-preserved c =
    let a = c.args in
    let l = c.loop-run in (
      omega (arith, c.loop-run-test.true),
      c.merge_within-made.ensures.0 ∙ l.invariant.1,
      omega (arith, c.merge_within-made.ensures.1, l.invariant.2),
      (λ F Z P T.
          let D = l.invariant.3 F Z P T in
          runs_next a.cuts.now a.starts.now a.sizes.roles c.requires.3 c.requires.0.3 c.requires.4.begun F T l.run D c.run_end-end.ensures
          (c.merge_within-made.ensures.2 F Z P (all_parts a.starts.now) D.groups (ends_low (goal.at.loop-run-preserved c).After-merge_within-arg-1) D.shown)),
      (λ i. c.merge_within-made.ensures.3 i ∙ l.invariant.4 i),
    )

pub shape_of-scratch : goal.shape_of-scratch
shape_of-scratch c = c.loop-run.invariant.1

pub returns : goal.returns
returns c =
    let l = c.loop-run in
    let a = c.args in (
      l.invariant.1,
      l.invariant.2,
      (λ F Z P T. runs_end a.cuts.now a.starts.now a.sizes.roles c.requires.3 c.requires.0.3 c.requires.4.begun F T (l.invariant.3 F Z P T) (omega (arith, l.invariant.0, c.loop-run-test.false))),
      l.invariant.4,
    )
