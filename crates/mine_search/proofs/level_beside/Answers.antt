-- Assumes nothing.
use Prim.Native.Nat.{ℕ}
use borrow.Author.Rules.{rules}
use mathlib.Core.Path.{subst}
use Rattle.mine_matches.specs.Matches.{both_members, Met}
use Rattle.mine_search.specs.SearchMetLaws.{beside_met}
use Rattle.mine_search.specs.PartnerSearchLaws.{beside_self, beside_other}
use Rattle.mine_parts.specs.Layout.{users_at, resources_at}
use lib.ListN.{drop}
use Rattle.mine_search.proofs.level_beside.Goals as goal

pub level_if_joined-requires : goal.level_if_joined-requires
level_if_joined-requires c =
    let a = c.args in
    let p = c.requires in
    let m = c.widen.ensures (users_at a.scratch.now a.c) (resources_at a.scratch.now a.c) p.5 in (
      p.0,
      p.1,
      p.2,
      search rules,
      search rules,
      (
        beside_met a.matches.now 0 (users_at a.scratch.now) a.c a.k c.widen.new.met c.lower-i.ensures c.higher-j.ensures
            (subst (λ (x : ℕ). Met a.matches.now 0 (both_members (users_at a.scratch.now a.c) x) c.widen.new.met) c.users_at.ensures m.0),
        beside_met a.matches.now 1 (resources_at a.scratch.now) a.c a.k (drop 6 c.widen.new.met) c.lower-i.ensures c.higher-j.ensures
            (subst (λ (x : ℕ). Met a.matches.now 1 (both_members (resources_at a.scratch.now a.c) x) (drop 6 c.widen.new.met)) c.resources_at.ensures m.1),
      ),
    )

pub returns-then-k-c : goal.returns-then-k-c
returns-then-k-c c =
    let a = c.args in
    beside_self a.links.now a.matches.now a.knowing.now a.attributes.now a.sizes.users a.sizes.resources a.sizes.operations a.scratch.now a.c c.if-k-c.true

pub returns : goal.returns
returns c =
    let a = c.args in
    beside_other a.links.now a.matches.now a.knowing.now a.attributes.now a.sizes.users a.sizes.resources a.sizes.operations a.scratch.now a.c c.if-k-c.false c.lower-i.ensures c.higher-j.ensures c.level_if_joined.ensures
