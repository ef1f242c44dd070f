-- Assumes nothing.
use lib.ListN.{length}
use mathlib.Core.Path.{refl, sym, ap, ◌∙◌}
use Rattle.mine_fill.specs.FillLaws.{role_skip, role-store}
use Rattle.mine_parts.specs.LayoutLaws.{stored-long}
use Rattle.mine_fill.proofs.fill_part.Goals as goal

pub shape_of-scratch-then-is_part : goal.shape_of-scratch-then-is_part
shape_of-scratch-then-is_part c =
    let a = c.args in
    let s = c.words_of-s.result in
    ap length c.store.ensures ∙ stored-long a.scratch.now a.i s.users s.resources s.operations s.rest

pub returns-then-is_part : goal.returns-then-is_part
returns-then-is_part c =
    let a = c.args in
    let s = c.words_of-s.result in (
      ap length c.store.ensures ∙ stored-long a.scratch.now a.i s.users s.resources s.operations s.rest,
      λ t first R. role-store a.links.now a.matches.now a.knowing.now a.attributes.now a.holders.now a.permissions.now a.sizes.users a.sizes.resources a.sizes.operations (sym c.is_part.ensures ∙ c.if-is_part.true) c.requires.5 R c.words_of-s.ensures c.store.ensures,
    )

pub returns : goal.returns
returns c =
    let a = c.args in
    (refl, λ t first R. role_skip a.links.now a.matches.now a.knowing.now a.attributes.now a.holders.now a.permissions.now a.sizes.users a.sizes.resources a.sizes.operations (sym c.is_part.ensures ∙ c.if-is_part.false) R)
