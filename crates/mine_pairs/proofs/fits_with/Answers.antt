-- Assumes nothing.
use Prim.Native.Nat.{ℕ}
use mathlib.Core.Bool.{◌&&◌}
use mathlib.Core.Path.{sym, ap, ◌∙◌}
use native.Mathlib.Omega.{arith}
use Rattle.sets.specs.Sets.{bit, mask_of}
use Rattle.mine_exact.specs.ExactLaws.{besides_decide}
use Rattle.mine_corners.specs.MayJoinLaws.{first-fails, second_decides}
use Rattle.mine_exact.specs.LookedLaws.{strangers_same}
use Rattle.mine_corners.specs.Pairing.{words_in, rim_free}
use Rattle.mine_pairs.proofs.fits_with.Goals as goal

pub returns-then-exactly : goal.returns-then-exactly
returns-then-exactly c =
    let a = c.args in
    second_decides c.requires.3 c.if-exactly.true
    (c.rim_free.ensures ∙ ap (λ (x : ℕ). rim_free a.links.now x c.union-people.result c.union-things.result a.who a.what) c.meet.ensures)
    ∙ sym (besides_decide a.links.now (words_in a.g) (words_in a.h) a.who a.what a.sizes.users a.sizes.resources a.sizes.operations (record {
      many = c.requires.0.0;
      much = c.requires.0.1;
      few = omega (arith, c.requires.0.2);
      who-low = c.requires.1;
      what-low = c.requires.2;
      people = c.union-people.ensures;
      things = c.union-things.ensures;
      operations = c.union.ensures;
      there = c.below.ensures;
      acts = c.meet-acts.ensures;
      people_pass = c.within.ensures;
      things_pass = c.within-2.ensures;
      passed = c.if-within-acts.true;
    }))

pub returns-then-within-acts : goal.returns-then-within-acts
returns-then-within-acts c =
    let a = c.args in
    first-fails (rim_free a.links.now (mask_of 64 (λ k. bit a.g.atoms k && bit a.h.atoms k)) c.union-people.result c.union-things.result a.who a.what) c.requires.3 c.if-exactly.false
    ∙ sym (besides_decide a.links.now (words_in a.g) (words_in a.h) a.who a.what a.sizes.users a.sizes.resources a.sizes.operations (record {
      many = c.requires.0.0;
      much = c.requires.0.1;
      few = omega (arith, c.requires.0.2);
      who-low = c.requires.1;
      what-low = c.requires.2;
      people = c.union-people.ensures;
      things = c.union-things.ensures;
      operations = c.union.ensures;
      there = c.below.ensures;
      acts = c.meet-acts.ensures;
      people_pass = c.within.ensures;
      things_pass = c.within-2.ensures;
      passed = c.if-within-acts.true;
    }))

pub grants_just-requires : goal.grants_just-requires
grants_just-requires c =
    let a = c.args in (
      c.requires.0,
      strangers_same a.links.now (words_in a.g) (words_in a.h) a.who a.what a.sizes.users _ _ c.requires.0.0 c.union-people.ensures c.union-anybody.ensures,
    )
