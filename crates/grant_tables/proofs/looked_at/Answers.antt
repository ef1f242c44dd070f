-- Assumes nothing.
use mathlib.Core.Path.{refl, sym, ◌∙◌}
use Rattle.grant_joins.specs.Tables.{looked_at}
use Rattle.grant_tables.proofs.looked_at.Goals as goal

pub returns-then-same_domain : goal.returns-then-same_domain
unfolding looked_at
returns-then-same_domain c = c.number.ensures ∙ rw (sym c.same_domain.ensures ∙ c.if-same_domain.true) refl

pub returns : goal.returns
unfolding looked_at
returns c = rw (sym c.same_domain.ensures ∙ c.if-same_domain.false) refl
