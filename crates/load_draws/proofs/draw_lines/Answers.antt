use Prim.Native.Nat.{◌*◌}
use borrow.Author.Rules.{rules}
use native.Mathlib.Omega.{arith}
use Rattle.files.specs.Load.{draw}
use Rattle.load_draws.specs.RunLaws.{ran_none, ran_draw, ran_next, ran_end, ran_length, ran_within, most-times, most-line}
use Rattle.load_draws.specs.Runs.{drawn_lines}
use Rattle.load_draws.specs.declared.Drawn.{Drawn}
use Rattle.load_lines.specs.DrawnLines.{line_of}
use Rattle.load_draws.proofs.draw_lines.Goals as goal

pub loop-i-init : goal.loop-i-init
loop-i-init c = (search rules, ran_none (λ i. draw (line_of c.args.draws i)) c.args.d c.args.out.now)

pub line-at-requires : goal.line-at-requires
line-at-requires c =
    let l = c.loop-i in
    let t = c.loop-i-test.true in
    let b = c.requires.0 in
    let a = c.requires.2 in
    let w = ran_within (6 * l.i) (drawn_lines c.args.draws l.i) c.args.d (record { at = l.at; last = l.last }) c.args.out.now l.out (most-times 6 l.i (λ j. draw (line_of c.args.draws j)) (λ j. most-line c.args.draws j)) l.invariant.1 in
    (c.requires.1 l.i t, omega (arith, w, a, b, t))

pub loop-i-preserved : goal.loop-i-preserved
loop-i-preserved c =
    let l = c.loop-i in
    let e : Drawn = record { at = l.at; last = l.last } in
    (search rules, ran_next (λ j. draw (line_of c.args.draws j)) l.i c.args.d e _ c.args.out.now l.out _ l.invariant.1 (ran_draw c.args.draws l.i e l.out _ _ _ c.next-last.ensures c.line-at.ensures))

pub shape_of-out : goal.shape_of-out
shape_of-out c =
    let a = c.args in
    let l = c.loop-i in
    ran_length (drawn_lines a.draws l.i) a.d (record { at = l.at; last = l.last }) a.out.now l.out l.invariant.1

pub returns : goal.returns
returns c =
    let a = c.args in
    let l = c.loop-i in
    ran_end (λ j. draw (line_of a.draws j)) l.i a.n a.d (record { at = l.at; last = l.last }) a.out.now l.out (omega arith) l.invariant.1
