-- The invariant: those found, and those left that pass, are the answer. What is left falls. Assumes nothing.
use Prim.Native.Nat.{ℕ, ◌+◌, ◌*◌, ◌^◌, ◌<◌}
use mathlib.Core.Bool.{Bool, ◌&&◌}
use mathlib.Core.List.{List}
use mathlib.Core.Path.{◌≡◌}
use Rattle.mine_words.specs.AtomLaws.{keeping}
use Rattle.sets.specs.Sets.{bit, mask_of}
use Rattle.sets.specs.Tests.{Is}
use Rattle.mine_corners.specs.Pairing.{words_in, reaches}
use Rattle.mine_parts.specs.Layout.{words_at}
use Rattle.mine_theory.specs.Words.Words.{Words}
use Rattle.mine_heads.proofs.reaching.Given as goal

abbrev pub reaches_it : List ℕ → ℕ → Words → ℕ → Bool
reaches_it scratch word W k = reaches (words_at scratch (64 * word + k)) W

abbrev pub invariant-loop-rest : goal.invariant-loop-rest
invariant-loop-rest l =
    (l.m < 2 ^ 64) × (l.rest < 2 ^ 64) × (mask_of 64 (keeping (reaches_it l.scratch l.word (words_in l.g)) l.m l.rest) ≡ mask_of 64 (λ k. bit l.marked k && reaches_it l.scratch l.word (words_in l.g) k))
    × ((k : ℕ) → Is (bit l.rest k) → Is (bit l.marked k))

abbrev pub decreases-loop-rest : goal.decreases-loop-rest
decreases-loop-rest l = l.rest
