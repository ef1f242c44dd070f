-- The opening, the runs and the end. Assumes nothing.
use native.Mathlib.Omega.{arith}
use Rattle.files.specs.Load.{load_run}
use Rattle.load_draws.specs.RunLaws.{ran_within}
use Rattle.load_draws.specs.declared.Drawn.{Drawn}
use Rattle.load_write.specs.LoadRunLaws.{most_load, load_put}
use Rattle.load_write.proofs.write.Goals as goal

pub put-requires : goal.put-requires
put-requires c =
    let n = c.args.sizes in
    let d = c.drawn_lines-d in
    let p = c.put-at in
    let e : Drawn = record { at = p.result; last = c.args.seed } in
    let b = p.ensures.1 in
    let w = ran_within 215808 (load_run n.users n.resources n.operations n.roles) e d.result _ _ (most_load n.users n.resources n.operations n.roles c.requires.0 c.requires.1 c.requires.2 c.requires.3) d.ensures in
    (omega (arith, w, b), omega arith)

pub returns : goal.returns
returns c =
    let a = c.args in
    let n = a.sizes in
    let p = c.put-at in
    let d = c.drawn_lines-d in
    let q = c.put in
    load_put a.seed n.users n.resources n.operations n.roles p.result q.result d.result a.out.now _ _ _ p.ensures d.ensures q.ensures
