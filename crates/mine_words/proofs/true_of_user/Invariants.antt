-- The invariant: those found, and those left that pass, are the answer. Assumes nothing.
use Prim.Native.Nat.{ℕ, ◌+◌, ◌*◌, ◌^◌, ◌<◌}
use lib.ListN.{get_or}
use mathlib.Core.Bool.{Bool}
use mathlib.Core.List.{List}
use mathlib.Core.Path.{◌≡◌}
use Rattle.mine_words.specs.AtomLaws.{keeping}
use Rattle.mine_words.specs.PartWords.{true_of_user}
use Rattle.sets.specs.Sets.{subset, mask_of}
use Rattle.mine_words.proofs.true_of_user.Given as goal

abbrev pub joined : List ℕ → ℕ → ℕ → ℕ → Bool
joined links user resources i = subset resources (get_or links (64 * i + user) 0)

abbrev pub invariant-loop-i : goal.invariant-loop-i
invariant-loop-i l = (l.m < 2 ^ 64) × (l.i-iterator.rest < 2 ^ 36) × (mask_of 64 (keeping (joined l.links l.user l.resources) l.m l.i-iterator.rest) ≡ true_of_user l.links l.atoms l.user l.resources)
