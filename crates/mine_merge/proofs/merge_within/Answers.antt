use borrow.Author.Rules.{rules}
use mathlib.Core.Path.{refl, ◌∙◌}
use native.Mathlib.Omega.{arith}
use Rattle.mine_merge.proofs.HeadCountLaws.{heads-most}
use Rattle.mine_merge.proofs.ProgressLaws.{stage_begun, stage_ended}
use Rattle.mine_merge.proofs.merge_within.Goals as goal

pub mark-requires : goal.mark-requires
mark-requires c = c.requires.3

pub loop-front-init : goal.loop-front-init
loop-front-init c = let a = c.args in (omega arith, refl, omega arith, c.mark.ensures, (λ F Z P parts old l T. stage_begun F parts a.window.first a.window.end old l T), λ i. refl)

pub settle-made-requires : goal.settle-made-requires
settle-made-requires c =
    let p = c.requires in
    (p.0, p.1, p.2, c.loop-front.invariant.0, c.loop-front-test.true, omega (arith, c.loop-front.invariant.1, p.3), c.loop-front.invariant.3)

pub overflow_add-made : goal.overflow_add-made
overflow_add-made c =
    let most = heads-most c.args.scratch.now in
    omega (arith, most, c.settle-made.ensures.1, c.loop-front.invariant.2)

pub loop-front-preserved : goal.loop-front-preserved
loop-front-preserved c =
    let l = c.loop-front in (
      omega (arith, l.invariant.0),
      c.settle-made.ensures.0 ∙ l.invariant.1,
      omega (arith, c.settle-made.ensures.1, l.invariant.2),
      c.settle-made.ensures.2,
      (λ F Z P parts old b T. c.settle-made.ensures.3 F Z P parts old l.made (l.invariant.4 F Z P parts old b T)),
      (λ i. c.settle-made.ensures.4 i ∙ l.invariant.5 i),
    )

pub shape_of-scratch : goal.shape_of-scratch
shape_of-scratch c = c.loop-front.invariant.1

pub returns : goal.returns
returns c =
    let l = c.loop-front in
    let a = c.args in
    (l.invariant.1, l.invariant.2, (λ F Z P parts old b T. stage_ended F parts a.window.first a.window.end old (omega (arith, c.loop-front-test.false)) (l.invariant.4 F Z P parts old b T)), l.invariant.5)
