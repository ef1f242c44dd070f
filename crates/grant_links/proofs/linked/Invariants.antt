-- The invariant: narrowing what is left by the atoms that are left gives the answer. The atoms left fall. Assumes nothing.
use Prim.Native.Nat.{ℕ, ◌+◌, ◌*◌, ◌^◌, ◌<◌}
use lib.ListN.{get_or}
use mathlib.Core.List.{List}
use mathlib.Core.Path.{◌≡◌}
use Rattle.grant_links.specs.Linked.{linked_with}
use Rattle.sets.specs.Sets.{narrowing, bit, mask_of}
use Rattle.sets.specs.Tests.{Is}
use Rattle.grant_links.proofs.linked.Given as goal

abbrev pub word : List ℕ → ℕ → ℕ → ℕ
word links user i = get_or links (64 * i + user) 0

abbrev pub invariant-loop-i : goal.invariant-loop-i
invariant-loop-i l = (l.m < 2 ^ 64) × (l.i-iterator.rest < 2 ^ 64) × ((i : ℕ) → Is (bit l.i-iterator.rest i) → i < 36) × (mask_of 64 (narrowing l.m (bit l.i-iterator.rest) (word l.links l.user) 36) ≡ linked_with l.links l.atoms l.user l.among)
