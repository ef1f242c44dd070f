use borrow.Author.Rules.{rules}
use lib.ListN.{drop}
use mathlib.Core.Bool.{false}
use mathlib.Core.Path.{sym, ◌∙◌}
use native.Mathlib.Omega.{arith}
use Rattle.sets.specs.LoopLaws.{any_none, any-on}
use Rattle.mine_pairs.specs.PairLevelLaws.{level-found, level-none, met_together, pass_within, level-fits}
use Rattle.mine_pairs.specs.PairLevels.{tables_fit}
use Rattle.mine_corners.specs.Pairing.{words_in}
use Rattle.mine_pairs.proofs.level_within.Goals as goal

pub loop-l-init : goal.loop-l-init
loop-l-init c =
    let a = c.args in
    (search rules, any_none (tables_fit a.links.now a.matches.now a.knowing.now a.attributes.now a.sizes.users a.sizes.resources a.sizes.operations (words_in a.g) (words_in a.h)))

pub fits_with-requires : goal.fits_with-requires
fits_with-requires c =
    let a = c.args in
    let p = pass_within a.links.now a.matches.now a.knowing.now a.attributes.now a.sizes.users a.sizes.resources a.sizes.operations (words_in a.g) (words_in a.h) c.loop-l.l (record {
      many = c.requires.0.0;
      much = c.requires.0.1;
      people = c.union-people.ensures;
      things = c.union-things.ensures;
      people_pass = c.passing-who.ensures a.matches.now (met_together a.matches.now 0 a.g.users a.h.users c.union-people.result a.met.now c.union-people.ensures c.requires.4.0);
      things_pass = c.passing-what.ensures a.matches.now (met_together a.matches.now 1 a.g.resources a.h.resources c.union-things.result (drop 6 a.met.now) c.union-things.ensures c.requires.4.1);
      people-here = c.with_own-w.ensures;
      things-here = c.with_own-v.ensures;
    }) in
    (c.requires.0, p.0, p.1, c.grants_exactly-exactly.ensures)

pub returns-then-fits_with : goal.returns-then-fits_with
returns-then-fits_with c =
    let a = c.args in
    level-found (tables_fit a.links.now a.matches.now a.knowing.now a.attributes.now a.sizes.users a.sizes.resources a.sizes.operations (words_in a.g) (words_in a.h)) c.loop-l.l a.limit (omega arith) (omega arith)
    c.loop-l.invariant.1
    (sym (level-fits a.links.now a.matches.now a.knowing.now a.attributes.now a.sizes.users a.sizes.resources a.sizes.operations (words_in a.g) (words_in a.h) c.loop-l.l (record {
      many = c.requires.0.0;
      much = c.requires.0.1;
      people = c.union-people.ensures;
      things = c.union-things.ensures;
      people_pass = c.passing-who.ensures a.matches.now (met_together a.matches.now 0 a.g.users a.h.users c.union-people.result a.met.now c.union-people.ensures c.requires.4.0);
      things_pass = c.passing-what.ensures a.matches.now (met_together a.matches.now 1 a.g.resources a.h.resources c.union-things.result (drop 6 a.met.now) c.union-things.ensures c.requires.4.1);
      people-here = c.with_own-w.ensures;
      things-here = c.with_own-v.ensures;
    }) c.fits_with.ensures) ∙ c.if-fits_with.true)

pub loop-l-preserved : goal.loop-l-preserved
loop-l-preserved c =
    let a = c.args in (
      search rules,
      any-on (tables_fit a.links.now a.matches.now a.knowing.now a.attributes.now a.sizes.users a.sizes.resources a.sizes.operations (words_in a.g) (words_in a.h)) c.loop-l.l c.loop-l.invariant.1
          (sym (level-fits a.links.now a.matches.now a.knowing.now a.attributes.now a.sizes.users a.sizes.resources a.sizes.operations (words_in a.g) (words_in a.h) c.loop-l.l (record {
            many = c.requires.0.0;
            much = c.requires.0.1;
            people = c.union-people.ensures;
            things = c.union-things.ensures;
            people_pass = c.passing-who.ensures a.matches.now (met_together a.matches.now 0 a.g.users a.h.users c.union-people.result a.met.now c.union-people.ensures c.requires.4.0);
            things_pass = c.passing-what.ensures a.matches.now (met_together a.matches.now 1 a.g.resources a.h.resources c.union-things.result (drop 6 a.met.now) c.union-things.ensures c.requires.4.1);
            people-here = c.with_own-w.ensures;
            things-here = c.with_own-v.ensures;
          }) c.fits_with.ensures) ∙ c.if-fits_with.false),
    )

pub returns : goal.returns
returns c =
    let a = c.args in
    level-none (tables_fit a.links.now a.matches.now a.knowing.now a.attributes.now a.sizes.users a.sizes.resources a.sizes.operations (words_in a.g) (words_in a.h)) c.loop-l.l a.limit c.loop-l.invariant.1 (omega arith)
