-- Each arm adds up the values of its case. Assumes nothing.
use Rattle.std.proofs.Common.{◌≡◌, ℕ, ◌%◌, ◌^◌, [], ◌∷◌, arith}
use Rattle.bench_denials.specs.DenialChecksum.{plus, weight_of}
use Rattle.sets.specs.Tests.{sum}
use Rattle.bench_denials.proofs.weight.Goals as goal

two : (a b : ℕ) → plus a b ≡ sum (λ x. x) (a ∷ b ∷ []) % 2 ^ 64
two a b = omega arith

pub returns-in-Ok : goal.returns-in-Ok
unfolding weight_of
returns-in-Ok c = rw c.in-Ok.is (two _ _)

pub returns-in-Err : goal.returns-in-Err
unfolding weight_of
returns-in-Err c = rw c.in-Err.is c.number.ensures
