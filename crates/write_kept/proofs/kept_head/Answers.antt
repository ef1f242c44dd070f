-- Assumes nothing.
use mathlib.Core.Path.{sym, ◌∙◌}
use Rattle.write_kept.specs.KeptLaws.{kept-some, kept-none}
use Rattle.write_kept.proofs.kept_head.Goals as goal

pub returns-then-is_head : goal.returns-then-is_head
returns-then-is_head c =
    let a = c.args in
    kept-some a.links.now a.matches.now a.knowing.now a.attributes.now a.sizes.users a.sizes.resources a.sizes.operations a.scratch.now a.i _ _ _ (sym c.is_head.ensures ∙ c.if-is_head.true) c.group_at-g.ensures c.level_at-level.ensures c.kept_places.ensures

pub returns : goal.returns
returns c =
    let a = c.args in
    kept-none a.links.now a.matches.now a.knowing.now a.attributes.now a.sizes.users a.sizes.resources a.sizes.operations a.scratch.now a.i (sym c.is_head.ensures ∙ c.if-is_head.false)
