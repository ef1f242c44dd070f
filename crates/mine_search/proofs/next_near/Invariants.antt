-- The invariant: no head of the words before this one is near. Assumes nothing.
use Prim.Native.Nat.{◌*◌}
use Rattle.mine_search.specs.PartnerSearch.{NoneIn, near_head}
use Rattle.mine_corners.specs.Pairing.{words_in}
use Rattle.mine_search.proofs.next_near.Given as goal

abbrev pub invariant-loop-word : goal.invariant-loop-word
invariant-loop-word l = NoneIn (near_head l.heads l.scratch (words_in l.g)) l.from (64 * l.word)
