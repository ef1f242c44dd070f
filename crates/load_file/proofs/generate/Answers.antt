-- A refusal a test, in 02's order; then the file is written. Assumes nothing.
use Rattle.std.proofs.Common.{arith}
use Rattle.std.proofs.lemmas.Result.{err_from_is_err_and}
use Rattle.load_file.specs.GeneratedLaws.{sizes_fit, zero_refused, sizes-refused, length-refused, output-refused, file-written}
use Rattle.load_file.proofs.generate.Goals as goal

pub returns-then-seed-eq0 : goal.returns-then-seed-eq0
returns-then-seed-eq0 c =
    let a = c.args in
    let n = a.sizes in
    zero_refused a.seed n.users n.resources n.operations n.roles a.out.now c.if-seed-eq0.true

pub returns-in_err-admit_sizes : goal.returns-in_err-admit_sizes
returns-in_err-admit_sizes c =
    let p = err_from_is_err_and c.from_residual.result c.from_residual.ensures.1 in
    let a = c.args in
    let n = a.sizes in
    rw (p.1, p.2) (sizes-refused a.seed n.users n.resources n.operations n.roles a.out.now c.if-seed-eq0.false _ c.in_err-admit_sizes.ensures)

pub measure-length-requires : goal.measure-length-requires
measure-length-requires c = let n = c.args.sizes in sizes_fit n.users n.resources n.operations n.roles c.in_ok-admit_sizes.ensures

pub returns-then-length-gt-BYTES : goal.returns-then-length-gt-BYTES
returns-then-length-gt-BYTES c =
    let a = c.args in
    let n = a.sizes in
    let m = c.measure-length.ensures in
    let t = c.if-length-gt-BYTES.true in
    length-refused a.seed n.users n.resources n.operations n.roles a.out.now c.if-seed-eq0.false c.in_ok-admit_sizes.ensures (omega (arith, m, t))

pub returns-then-out-length : goal.returns-then-out-length
returns-then-out-length c =
    let a = c.args in
    let n = a.sizes in
    let m = c.measure-length.ensures in
    let l = c.if-length-gt-BYTES.false in
    let t = c.if-out-length.true in
    output-refused a.seed n.users n.resources n.operations n.roles a.out.now c.if-seed-eq0.false c.in_ok-admit_sizes.ensures (omega (arith, m, l)) (omega (arith, m, t))

pub write-requires : goal.write-requires
write-requires c = let n = c.args.sizes in sizes_fit n.users n.resources n.operations n.roles c.in_ok-admit_sizes.ensures

pub returns : goal.returns
returns c =
    let a = c.args in
    let n = a.sizes in
    let m = c.measure-length.ensures in
    let l = c.if-length-gt-BYTES.false in
    let t = c.if-out-length.false in
    file-written a.seed n.users n.resources n.operations n.roles a.out.now c.if-seed-eq0.false c.in_ok-admit_sizes.ensures (omega (arith, m, l)) _ _ (omega (arith, m, t)) c.write.ensures.0 m
