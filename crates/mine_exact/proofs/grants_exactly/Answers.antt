-- Assumes nothing.
use Prim.Native.Nat.{ℕ}
use mathlib.Core.Path.{sym, ap₂, ◌∙◌}
use Rattle.mine_theory.specs.Words.Words.{joined}
use Rattle.mine_exact.specs.ExactLaws.{alike_exactly}
use Rattle.mine_exact.specs.LookedLaws.{unchanged_same}
use Rattle.mine_corners.specs.Pairing.{words_in, covers_just, grants_exactly}
use native.Mathlib.Omega.{arith}
use Rattle.mine_exact.proofs.grants_exactly.Goals as goal

pub returns-then-g-h : goal.returns-then-g-h
returns-then-g-h c =
    let a = c.args in
    sym (alike_exactly a.links.now (words_in a.g) (words_in a.h) c.requires.1 c.if-g-h.true a.sizes.users a.sizes.resources a.sizes.operations c.requires.0.0 c.requires.0.1 (omega (arith, c.requires.0.2)))

pub grants_just-requires : goal.grants_just-requires
grants_just-requires c =
    let a = c.args in (
      c.requires.0,
      unchanged_same a.links.now (words_in a.g) (words_in a.h) a.sizes.users _ _ _ c.requires.1 c.requires.0.0 c.changed.ensures c.union.ensures c.union-2.ensures,
    )

pub returns : goal.returns
unfolding grants_exactly joined
returns c =
    let a = c.args in
    c.grants_just.ensures ∙ ap₂ (λ (x y : ℕ). covers_just a.links.now (words_in a.g) (words_in a.h) x y a.sizes.users a.sizes.resources a.sizes.operations) c.union.ensures c.union-2.ensures
