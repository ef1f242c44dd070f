use native.Mathlib.Omega.{arith}
use Rattle.mine_heads.specs.HeadLaws.{open_below}
use Rattle.mine_search.specs.PartnerSearchLaws.{looking, looking-on, looking-found, looking-end, first-later}
use Rattle.mine_search.proofs.first_partner.Goals as goal

pub loop-k-init : goal.loop-k-init
loop-k-init c =
    let a = c.args in
    looking a.window.end a.links.now a.matches.now a.knowing.now a.attributes.now a.sizes.users a.sizes.resources a.sizes.operations a.ready.now a.scratch.now a.seeking.head a.seeking.from c.requires.4 c.requires.7 c.group_at-g.ensures (omega arith) c.requires.5 (λ n p q. absurd (omega arith)) c.next_near-k.ensures

pub returns-then-level-lt-NO_LEVEL : goal.returns-then-level-lt-NO_LEVEL
returns-then-level-lt-NO_LEVEL c =
    let a = c.args in
    looking-found a.window.end a.links.now a.matches.now a.knowing.now a.attributes.now a.sizes.users a.sizes.resources a.sizes.operations a.ready.now a.scratch.now a.seeking.head a.seeking.from c.requires.9 c.loop-k.invariant c.loop-k-test.true c.level_beside-level.ensures c.if-level-lt-NO_LEVEL.true

pub loop-k-smaller : goal.loop-k-smaller
loop-k-smaller c =
    let later = first-later (omega (arith, c.loop-k-test.true)) c.next_near-k-in-loop-k.ensures in
    omega (arith, later, c.loop-k-test.true)

pub loop-k-preserved : goal.loop-k-preserved
loop-k-preserved c =
    let a = c.args in
    let l = c.loop-k in
    looking a.window.end a.links.now a.matches.now a.knowing.now a.attributes.now a.sizes.users a.sizes.resources a.sizes.operations a.ready.now a.scratch.now a.seeking.head a.seeking.from c.requires.4 c.requires.7 c.group_at-g.ensures (omega (arith, (l.invariant.head c.loop-k-test.true).0)) (omega (arith, c.loop-k-test.true))
    (looking-on a.window.end a.links.now a.matches.now a.knowing.now a.attributes.now a.sizes.users a.sizes.resources a.sizes.operations a.ready.now a.scratch.now a.seeking.head a.seeking.from c.requires.9 l.invariant c.loop-k-test.true c.level_beside-level.ensures c.if-level-lt-NO_LEVEL.false) c.next_near-k-in-loop-k.ensures

pub returns : goal.returns
returns c =
    let a = c.args in
    looking-end a.window.end a.links.now a.matches.now a.knowing.now a.attributes.now a.sizes.users a.sizes.resources a.sizes.operations a.ready.now a.scratch.now a.seeking.head a.seeking.from c.loop-k.invariant c.loop-k-test.false

pub next_near-k-requires : goal.next_near-k-requires
next_near-k-requires c = let p = c.requires in (p.6, open_below p.7)

pub next_near-k-requires-in-loop-k : goal.next_near-k-requires-in-loop-k
next_near-k-requires-in-loop-k c = let p = c.requires in (p.6, open_below p.7)
