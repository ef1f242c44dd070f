-- The weight of the verdict, or the refusal's number behind those of the verdicts. Assumes nothing.
use Rattle.std.proofs.Common.{refl}
use Rattle.bench_judge.specs.JudgeChecksum.{weight_of}
use Rattle.bench_judge.proofs.weight.Goals as goal

pub returns-in-Ok : goal.returns-in-Ok
returns-in-Ok c = rw c.in-Ok.is c.verdict_weight.ensures

pub returns-in-Err : goal.returns-in-Err
unfolding weight_of
returns-in-Err c = rw (c.in-Err.is, c.number.ensures) refl
