-- Assumes nothing.
use mathlib.Core.Path.{◌∙◌}
use Rattle.sets.specs.Sets.{subset}
use Rattle.mine_corners.specs.MayJoinLaws.{first-fails, second_decides, reaches_plain, reaches-both}
use Rattle.mine_corners.specs.Pairing.{words_in}
use Rattle.mine_corners.proofs.reaches.Goals as goal

pub returns-then-without-eq0 : goal.returns-then-without-eq0
returns-then-without-eq0 c =
    let a = c.args in
    reaches_plain (words_in a.g) (words_in a.h) c.without.ensures c.if-without-eq0.true

pub returns-then-within : goal.returns-then-within
returns-then-within c =
    let a = c.args in
    second_decides c.within.ensures c.if-within.true c.within-then-within.ensures
    ∙ reaches-both (words_in a.g) (words_in a.h) c.without.ensures c.if-without-eq0.false

pub returns : goal.returns
returns c =
    let a = c.args in
    first-fails (subset a.h.resources a.g.resources) c.within.ensures c.if-within.false
    ∙ reaches-both (words_in a.g) (words_in a.h) c.without.ensures c.if-without-eq0.false
