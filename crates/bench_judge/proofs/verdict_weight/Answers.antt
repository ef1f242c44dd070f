-- Each arm adds up the values of its case. Assumes nothing.
use Rattle.std.proofs.Common.{◌≡◌, ℕ, ◌%◌, ◌^◌, [], ◌∷◌, refl, arith}
use Rattle.bench_judge.specs.JudgeChecksum.{plus, weight_of}
use Rattle.sets.specs.Tests.{sum}
use Rattle.bench_judge.proofs.verdict_weight.Goals as goal

-- the order of adding up is free
one : (a b : ℕ) → plus a b ≡ sum (λ x. x) (a ∷ b ∷ []) % 2 ^ 64
one a b = omega arith

three : (a u r o : ℕ) → plus (plus a u) (plus r o) ≡ sum (λ x. x) (a ∷ u ∷ r ∷ o ∷ []) % 2 ^ 64
three a u r o = omega arith

pub returns-in-Sound : goal.returns-in-Sound
unfolding weight_of
returns-in-Sound c = rw c.in-Sound.is refl

pub returns-in-Differ : goal.returns-in-Differ
unfolding weight_of
returns-in-Differ c = rw c.in-Differ.is (three _ _ _ _)

pub returns-in-StrayRule : goal.returns-in-StrayRule
unfolding weight_of
returns-in-StrayRule c = rw c.in-StrayRule.is (one _ _)

pub returns-in-StrayPart : goal.returns-in-StrayPart
unfolding weight_of
returns-in-StrayPart c = rw c.in-StrayPart.is (one _ _)
