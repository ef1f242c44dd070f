-- Assumes nothing.
use Prim.Native.Nat.{ℕ}
use mathlib.Core.Path.{sym, ap₂, subst}
use native.Mathlib.Omega.{arith}
use Rattle.mine_matches.specs.Matches.{both_members, Met}
use Rattle.mine_search.specs.PartnerSearchLaws.{level-told}
use Rattle.mine_theory.specs.Words.Words.{Words}
use lib.ListN.{drop}
use Rattle.mine_search.proofs.level_if_joined.Goals as goal

pub level_of_pair-requires : goal.level_of_pair-requires
level_of_pair-requires c =
    let a = c.args in
    let g = c.group_at-g.ensures in
    let h = c.group_at-h.ensures in
    let p = c.requires in (
      p.0,
      p.1,
      p.2,
      omega arith,
      (
        subst (λ (m : ℕ). Met a.matches.now 0 m a.met.now) (sym (ap₂ (λ (W X : Words). both_members W.users X.users) g h)) p.5.0,
        subst (λ (m : ℕ). Met a.matches.now 1 m (drop 6 a.met.now)) (sym (ap₂ (λ (W X : Words). both_members W.resources X.resources) g h)) p.5.1,
      ),
    )

pub returns : goal.returns
returns c =
    let a = c.args in
    level-told a.links.now a.matches.now a.knowing.now a.attributes.now a.sizes.users a.sizes.resources a.sizes.operations a.scratch.now a.i a.j c.group_at-g.ensures c.group_at-h.ensures c.level_at.ensures c.level_at-2.ensures c.higher-limit.ensures c.level_of_pair.ensures
