-- The invariant: the atoms kept that are true of all users left are the answer. Assumes nothing.
use Prim.Native.Nat.{◌^◌, ◌<◌}
use mathlib.Core.Path.{◌≡◌}
use Rattle.mine_words.specs.AtomLaws.{true_still}
use Rattle.mine_words.specs.PartWords.{atoms_of}
use Rattle.mine_words.proofs.atoms_of.Given as goal

abbrev pub invariant-loop-user : goal.invariant-loop-user
invariant-loop-user l = (l.m < 2 ^ 36) × (l.user-iterator.rest < 2 ^ 64) × (true_still l.links l.m l.user-iterator.rest l.resources ≡ atoms_of l.links l.attributes l.users l.resources)
