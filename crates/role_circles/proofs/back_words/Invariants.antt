-- The invariant: the words before m are right, and the word at hand is the next. Assumes nothing.
use Prim.Native.Nat.{ℕ, ◌≤◌, ◌<◌}
use lib.ListN.{length, get_or}
use mathlib.Core.Path.{◌≡◌}
use Rattle.role_circles.specs.BackWords.{back_word}
use Rattle.role_circles.proofs.back_words.Given as goal

abbrev pub invariant-loop-m : goal.invariant-loop-m
invariant-loop-m l = (l.m ≤ 32) × (length l.out ≡ 32) × (l.word ≡ back_word l.lines l.roles l.low l.m) × ((j : ℕ) → j < l.m → get_or l.out j 0 ≡ back_word l.lines l.roles l.low j)
