-- Each arm adds up the values of its case. Assumes nothing.
use Rattle.std.proofs.Common.{◌≡◌, ℕ, ◌%◌, ◌^◌, [], ◌∷◌, arith}
use Rattle.bench_mine.specs.MineChecksum.{plus, weight_of}
use Rattle.sets.specs.Tests.{sum}
use Rattle.bench_mine.proofs.weight.Goals as goal

-- the order of adding up is free
added : (l p r m c : ℕ) → plus (plus l c) (plus p (plus r m)) ≡ sum (λ x. x) (l ∷ p ∷ r ∷ m ∷ c ∷ []) % 2 ^ 64
added l p r m c = omega arith

pub returns-in-Ok : goal.returns-in-Ok
unfolding weight_of
returns-in-Ok c = rw c.in-Ok.is (added _ _ _ _ _)

pub returns-in-Err : goal.returns-in-Err
unfolding weight_of
returns-in-Err c = rw c.in-Err.is c.number.ensures
