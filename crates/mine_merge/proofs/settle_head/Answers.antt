use borrow.Author.Tests.{eq-eqb}
use mathlib.Core.Path.{◌∙◌, ◌≡◌, refl}
use Prim.Native.Nat.{ℕ, suc, ◌+◌, ◌≤◌, max, min}
use native.Mathlib.Omega.{arith}
use Rattle.mine_merge.proofs.HeadCountLaws.{heads-most, heads-fewer}
use Rattle.mine_merge.proofs.ProgressLaws.{going-begin, going-turn, going_end}
use Rattle.mine_merge.specs.Steps.{head_count}
use Rattle.mine_parts.specs.Layout.{rest_at, head_in}
use Rattle.mine_search.specs.PartnerSearch.{pair_at, partner_at}
use Rattle.mine_search.specs.PartnerSearchLaws.{partner-first, partner-later, first-later, chosen-partner, chosen-behind, Taking, taking}
use Rattle.mine_widen.specs.MetLaws.{none-met}
use Rattle.mine_merge.proofs.settle_head.Goals as goal
use Rattle.mine_merge.proofs.settle_head.Goals.{After-met-in-loop-window-2-1, After-slice_known-in-loop-window-1}

pub prepare-requires : goal.prepare-requires
prepare-requires c =
    (c.requires.4, c.requires.5, c.requires.6, none-met c.args.matches.now)

pub loop-window-init : goal.loop-window-init
loop-window-init c =
    let a = c.args in
    let p = c.requires in (
      refl,
      omega arith,
      omega (arith, p.4),
      omega arith,
      (λ r level found.
          let later = partner-later a.links.now a.matches.now a.knowing.now a.attributes.now a.sizes.users a.sizes.resources a.sizes.operations a.scratch.now a.start found.first in (
            chosen-behind (pair_at a.links.now a.matches.now a.knowing.now a.attributes.now a.sizes.users a.sizes.resources a.sizes.operations a.scratch.now) a.start later,
            (λ F Z P parts old made S. going-begin F Z a.links.now a.matches.now a.knowing.now a.attributes.now a.sizes.users a.sizes.resources a.sizes.operations P parts a.window.first a.window.end old a.scratch.now made a.start r p.3 p.4 later S),
          )),
      c.prepare.ensures,
      (λ i. refl),
      p.3,
      omega (arith, p.3),
      p.7,
    )

pub first_partner-other-requires : goal.first_partner-other-requires
first_partner-other-requires c =
    let p = c.requires in
    let inv = c.loop-window.invariant in
    (p.0, p.1, p.2, omega (arith, inv.1, p.4), inv.8, inv.2, omega (arith, inv.0, p.5), inv.5.reach, inv.5.group, inv.9)

pub shape_of-scratch-then-end-other : goal.shape_of-scratch-then-end-other
shape_of-scratch-then-end-other c = c.loop-window.invariant.0

pub returns-then-end-other : goal.returns-then-end-other
returns-then-end-other c =
    let a = c.args in
    let p = c.requires in
    let inv = c.loop-window.invariant in
    let end = inv.4 _ _ c.first_partner-other.ensures in
    (inv.0, inv.3, inv.5.marks, (λ F Z P parts old made S. going_end F parts a.window.first a.window.end old (end.1 F Z P parts old made S) (omega (arith, inv.1)) (omega (arith, inv.1, p.4)) (omega (arith, c.if-end-other.true))), inv.6)

-- the two heads in order
taken : (c : After-met-in-loop-window-2-1) (i : ℕ) → let a = c.args in let l = c.loop-window in let other = c.first_partner-other.result in
    i ≡ min l.seeking.head other.head → Taking a.window.end a.links.now a.matches.now a.knowing.now a.attributes.now a.sizes.users a.sizes.resources a.sizes.operations l.scratch l.seeking.head i (max l.seeking.head other.head) other.level
taken c i e =
    let a = c.args in
    let l = c.loop-window in
    let other = c.first_partner-other.result in
    let finds = c.first_partner-other.ensures in
    taking a.window.end a.links.now a.matches.now a.knowing.now a.attributes.now a.sizes.users a.sizes.resources a.sizes.operations l.scratch l.seeking.head i (max l.seeking.head other.head) other.level (l.invariant.4 _ _ finds).0 finds.leveled (omega (arith, c.if-end-other.false)) (omega (arith, l.invariant.1, c.requires.4)) e refl

pub join_found-c-requires : goal.join_found-c-requires
join_found-c-requires c =
    let l = c.loop-window in
    let p = c.requires in
    let o = taken c _ refl in
    (omega (arith, l.invariant.1, p.4), omega (arith, c.if-end-other.false), omega (arith, l.invariant.0, p.5), record { order = o.order; below = o.below; low = o.low; head = o.first }, l.invariant.5)

pub overflow_add-merges : goal.overflow_add-merges
overflow_add-merges c =
    let most = heads-most c.args.scratch.now in
    omega (arith, most, c.loop-window.invariant.3)

-- a join leaves fewer heads
fewer : (c : After-slice_known-in-loop-window-1) → suc (head_count c.join_found-c.new.scratch) ≤ head_count c.loop-window.scratch
fewer c =
    let o = taken (goal.at.loop-window-smaller c).After-met-in-loop-window-2-1 _ c.join_found-c.ensures.0 in
    heads-fewer o.order c.join_found-c.ensures.1 o.first (omega (arith, o.below, c.requires.5)) o.second

pub loop-window-smaller : goal.loop-window-smaller
loop-window-smaller c =
    let less = fewer c in omega (arith, less)

pub loop-window-preserved : goal.loop-window-preserved
loop-window-preserved c =
    let a = c.args in
    let p = c.requires in
    let l = c.loop-window in
    let other = c.first_partner-other.result in
    let i = c.join_found-c.result in
    let first = c.join_found-c.ensures.0 in
    let both = c.join_found-c.ensures.1 in
    let o = taken (goal.at.loop-window-preserved c).After-met-in-loop-window-2-1 i first in
    let less = fewer c in
    let later = first-later {f = partner_at a.links.now a.matches.now a.knowing.now a.attributes.now a.sizes.users a.sizes.resources a.sizes.operations l.scratch l.seeking.head} l.invariant.2 c.first_partner-other.ensures.first in
    let inside : a.window.first ≤ i = omega (arith, first, later, l.invariant.7, l.invariant.8) in (
      both.long ∙ l.invariant.0,
      omega (arith, o.back, l.invariant.1),
      omega (arith, p.3, p.4),
      omega (arith, less, l.invariant.3),
      (λ r level finds.
          let next = partner-first a.links.now a.matches.now a.knowing.now a.attributes.now a.sizes.users a.sizes.resources a.sizes.operations c.join_found-c.new.scratch i finds.first inside (omega (arith, o.order, o.below)) in (
            chosen-partner (pair_at a.links.now a.matches.now a.knowing.now a.attributes.now a.sizes.users a.sizes.resources a.sizes.operations c.join_found-c.new.scratch) i next,
            (λ F Z P parts old made S. going-turn F Z a.links.now a.matches.now a.knowing.now a.attributes.now a.sizes.users a.sizes.resources a.sizes.operations P parts a.window.first a.window.end old l.scratch c.join_found-c.new.scratch (made + l.merges) (made + (l.merges + 1)) (a.start + 1) l.seeking.head other.head i (max l.seeking.head other.head) other.level r (omega arith) (omega (arith, l.invariant.1)) l.invariant.7 (omega (arith, l.invariant.1, p.4)) (omega (arith, c.if-end-other.false))
                first refl o.leveled both next ((l.invariant.4 _ _ c.first_partner-other.ensures).1 F Z P parts old made S)),
          )),
      c.join_found-c.ensures.2,
      (λ n. both.names n ∙ l.invariant.6 n),
      inside,
      omega arith,
      eq-eqb (head_in (rest_at c.join_found-c.new.scratch i)) i both.head,
    )
