-- Assumes nothing.
use mathlib.Core.Path.{sym, ◌∙◌}
use Rattle.mine_pairs.specs.PairLevelLaws.{pair-refused, pair-level}
use Rattle.mine_corners.specs.Pairing.{words_in}
use Rattle.mine_pairs.proofs.level_of_pair.Goals as goal

pub level_within-requires : goal.level_within-requires
level_within-requires c =
    let p = c.requires in
    (p.0, p.1, p.2, p.3, p.4, sym c.may_join.ensures ∙ c.if-may_join.true)

pub returns-then-may_join : goal.returns-then-may_join
returns-then-may_join c =
    let a = c.args in
    pair-level a.links.now a.matches.now a.knowing.now a.attributes.now a.sizes.users a.sizes.resources a.sizes.operations (words_in a.g) (words_in a.h) a.limit c.may_join.ensures c.if-may_join.true c.level_within.ensures

pub returns : goal.returns
returns c =
    let a = c.args in
    pair-refused a.links.now a.matches.now a.knowing.now a.attributes.now a.sizes.users a.sizes.resources a.sizes.operations (words_in a.g) (words_in a.h) a.limit c.may_join.ensures c.if-may_join.false
