-- Assumes nothing.
use Rattle.write_places.specs.KeptAtomLaws.{atoms-shifted}
use Rattle.write_places.proofs.atoms_kept.Goals as goal

pub returns : goal.returns
returns c = atoms-shifted c.args.kept c.below.result _ c.below.ensures c.meet.ensures
