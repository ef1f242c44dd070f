-- Assumes nothing.
use Rattle.write_lines.proofs.ValueLineLaws.{store_one}
use Rattle.write_lines.proofs.put_one.Goals as goal

pub returns : goal.returns
returns c = store_one _ c.args.out.now c.requires.0
