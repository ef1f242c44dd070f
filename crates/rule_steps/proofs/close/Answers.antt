-- Assumes nothing.
use mathlib.Core.Path.{ap, ◌∙◌}
use Rattle.grant_blocks.specs.Rows.{added_rows}
use Rattle.rule_notes.specs.Tally.{open_rows}
use Rattle.rule_notes.specs.KeptLaws.{closed-by}
use Rattle.rule_steps.proofs.close.Goals as goal

pub returns : goal.returns
unfolding open_rows
returns c =
    let a = c.args in (
      closed-by a.k a.met.now a.listed.now a.links.now a.f.now.users a.f.now.resources a.f.now.operations _ _ _ c.rule_rows.ensures c.same_rows-same.ensures c.counted.ensures,
      c.add_rows.ensures ∙ ap (λ t. added_rows a.f.now.operations t a.k.operations a.grid.now) c.rule_rows.ensures,
    )
