-- Assumes nothing.
use Rattle.mine_matches.specs.MatchTableLaws.{count_room}
use mathlib.Core.Path.{ap, ◌∙◌}
use Prim.Native.Nat.{ℕ}
use lib.Dec.{ltb}
use Rattle.mine_matches.specs.MatchTableLaws.{known-there}
use Rattle.sets.specs.Sets.{mask_of}
use Rattle.mine_matches.proofs.known_at.Goals as goal

pub returns : goal.returns
returns c =
    let a = c.args in
    known-there a.users a.resources a.known.now a.place c.below.result c.knowing.result _ (count_room a.users a.resources a.place c.requires.0 c.requires.1)
    (c.below.ensures ∙ ap (λ (x : ℕ). mask_of 64 (λ c. ltb c x)) c.count_at.ensures) c.knowing.ensures c.meet.ensures
