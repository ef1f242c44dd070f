-- Assumes nothing.
use native.Mathlib.Omega.{arith}
use Rattle.mine_widen.specs.MetLaws.{met-alone}
use Rattle.mine_exact.specs.ExactLaws.{self-joins}
use Rattle.mine_pairs.specs.PairLevelLaws.{group-found, group-none}
use Rattle.mine_pairs.specs.PairLevels.{tables_fit, group_level}
use Rattle.mine_corners.specs.Pairing.{words_in}
use lib.ListN.{drop}
use Rattle.mine_pairs.proofs.level_of_group.Goals as goal

pub level_within-level-requires : goal.level_within-level-requires
level_within-level-requires c =
    let a = c.args in
    let p = c.requires in
    (p.0, p.1, p.2, omega arith, (met-alone a.matches.now 0 a.g.users a.met.now p.3.0, met-alone a.matches.now 1 a.g.resources (drop 6 a.met.now) p.3.1), self-joins a.links.now (words_in a.g))

pub returns-then-level-lt3 : goal.returns-then-level-lt3
unfolding group_level
returns-then-level-lt3 c =
    let a = c.args in
    group-found (tables_fit a.links.now a.matches.now a.knowing.now a.attributes.now a.sizes.users a.sizes.resources a.sizes.operations (words_in a.g) (words_in a.g)) c.level_within-level.result
    c.level_within-level.ensures c.if-level-lt3.true

pub returns : goal.returns
unfolding group_level
returns c =
    let a = c.args in
    group-none (tables_fit a.links.now a.matches.now a.knowing.now a.attributes.now a.sizes.users a.sizes.resources a.sizes.operations (words_in a.g) (words_in a.g)) c.level_within-level.result
    c.level_within-level.ensures c.if-level-lt3.false
