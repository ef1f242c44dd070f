-- The invariant: the set has those before i that pass.
use Rattle.std.proofs.Common.{◌≡◌, ℕ, ◌≤◌, ◌<◌, Bool}
use Rattle.sets.specs.Sets.{mask_of}
use Rattle.sets.proofs.those.Given as goal

abbrev pub invariant-loop-i : goal.invariant-loop-i
invariant-loop-i g l =
    (l.i ≤ l.n)
    × ((test : ℕ → Bool) → ((i : ℕ) (b : Bool) → i < l.n → goal.F-post g l.passes i b → b ≡ test i) → l.m ≡ mask_of l.i test)
