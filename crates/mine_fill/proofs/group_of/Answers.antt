-- Assumes nothing.
use mathlib.Core.Path.{refl}
use Rattle.mine_fill.specs.Fill.{part_words}
use Rattle.mine_theory.proofs.Words.WordLaws.{words_same}
use Rattle.mine_fill.proofs.group_of.Goals as goal

pub returns : goal.returns
unfolding part_words
returns c = words_same refl refl c.class_of-class.ensures c.atoms_of-atoms.ensures
