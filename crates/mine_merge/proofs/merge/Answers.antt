-- Filled, scratch shows every part alone; from what the first stage leaves the last goes on to the groups of the policy. Assumes nothing.
use Prim.Native.Nat.{ℕ}
use mathlib.Core.Path.{◌≡◌, sym, ◌∙◌, subst}
use native.Mathlib.Omega.{arith}
use Rattle.mine_merge.proofs.AloneLaws.{alone_traced}
use Rattle.mine_merge.proofs.FilledLaws.{starts-filled, started_kept}
use Rattle.mine_merge.proofs.HeadCountLaws.{heads-most}
use Rattle.mine_merge.specs.Progress.{Settled}
use Rattle.mine_merge.proofs.ProgressLaws.{paired-tables, last-left}
use Rattle.mine_merge.specs.Traced.{Traced, alone}
use Rattle.mine_groups.specs.Scratch.{all_parts, Started, Stands}
use Rattle.mine_join.specs.JoinedLaws.{name-stays}
use Rattle.mine_join.specs.Joins.{Resolved}
use Rattle.mine_merge.proofs.merge.Goals as goal
use Rattle.mine_merge.proofs.merge.Goals.{After-merge_runs-arg-1}

-- the parts that were filled are all
all-filled : (c : After-merge_runs-arg-1) → c.fill-parts.result ≡ all_parts c.fill-parts.new.starts
all-filled c = c.fill-parts.ensures.2 ∙ sym (c.fill-parts.ensures.4 32 (omega arith))

stands : (c : After-merge_runs-arg-1) → Stands c.fill-parts.new.scratch c.fill-parts.new.starts
stands c =
    let filled = c.fill-parts.ensures in
    let a = c.args in
    let all = all-filled c in
    record {
      room = omega (arith, all, filled.0, filled.1, c.requires.3);
      begun = subst (λ (n : ℕ). Started n c.fill-parts.new.scratch c.fill-parts.new.starts) all
          (starts-filled a.links.now a.matches.now a.knowing.now a.attributes.now a.holders.now a.permissions.now a.sizes.users a.sizes.resources a.sizes.operations c.requires.0.2 _ c.fill-parts.new.scratch c.fill-parts.new.starts filled.2 filled.3 filled.4);
    }

pub merge_runs-within_runs-requires : goal.merge_runs-within_runs-requires
merge_runs-within_runs-requires c =
    let p = c.requires in
    (p.0, p.1, p.2, p.4, stands c)

pub merge_within-over_all-requires : goal.merge_within-over_all-requires
merge_within-over_all-requires c =
    let p = c.requires in
    (p.0, p.1, p.2, omega (arith, c.merge_runs-within_runs.ensures.0, c.fill-parts.ensures.0, c.fill-parts.ensures.1, p.3))

pub resolve-requires : goal.resolve-requires
resolve-requires c =
    omega (arith, c.merge_within-over_all.ensures.0, c.merge_runs-within_runs.ensures.0, c.fill-parts.ensures.0, c.fill-parts.ensures.1, c.requires.3)

pub overflow_add-result : goal.overflow_add-result
overflow_add-result c =
    let most = heads-most c.fill-parts.new.scratch in
    omega (arith, most, c.merge_within-over_all.ensures.1, c.merge_runs-within_runs.ensures.1)

pub shape_of-scratch : goal.shape_of-scratch
shape_of-scratch c =
    c.resolve.ensures.long ∙ c.merge_within-over_all.ensures.0 ∙ c.merge_runs-within_runs.ensures.0 ∙ c.fill-parts.ensures.1

pub returns : goal.returns
returns c =
    let filled = c.fill-parts.ensures in
    let a = c.args in
    let starts = c.fill-parts.new.starts in
    let filled-in = (goal.at.returns c).After-merge_runs-arg-1 in
    let all = all-filled filled-in in
    let stood = stands filled-in in
    let room = stood.room in
    let long = c.resolve.ensures.long ∙ c.merge_within-over_all.ensures.0 ∙ c.merge_runs-within_runs.ensures.0 in (
      long ∙ filled.1,
      record {
        room = omega (arith, room, long);
        begun = started_kept stood.begun (λ i h. name-stays _ _ (c.resolve.ensures.low i (omega (arith, h, all))) ∙ c.merge_within-over_all.ensures.3 i ∙ c.merge_runs-within_runs.ensures.3 i);
      },
      λ F Z T.
          let alone-there = subst (λ (n : ℕ). Traced F n c.fill-parts.new.scratch alone) all (alone_traced F Z T _ c.fill-parts.new.scratch filled.2 filled.3) in
          let L = c.merge_runs-within_runs.ensures.2 F Z (paired-tables T) alone-there in
          let S = c.merge_within-over_all.ensures.2 F Z (paired-tables T) (all_parts starts) L.groups (omega (arith, all)) L.shown in
          last-left F a.cuts.now (all_parts starts) L (subst (λ (n : ℕ). Settled F (all_parts starts) 0 n L.groups c.merge_within-over_all.new.scratch c.merge_within-over_all.result n) all S)
          (subst (λ (n : ℕ). Resolved n c.merge_within-over_all.new.scratch c.resolve.new.scratch) all c.resolve.ensures),
    )
