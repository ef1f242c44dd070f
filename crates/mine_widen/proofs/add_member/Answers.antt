use Prim.Native.Nat.{ℕ, ◌+◌, ◌*◌}
use borrow.Author.Count.{below_none}
use borrow.Author.Rules.{rules}
use lib.ListN.{get_or}
use mathlib.Core.Bool.{◌||◌}
use mathlib.Core.Path.{refl, ap, ◌∙◌}
use native.Mathlib.Omega.{arith}
use Rattle.sets.specs.LoopLaws.{store_next, store_rest}
use Rattle.sets.specs.Sets.{bit, mask_of}
use Rattle.mine_widen.proofs.add_member.Invariants.{joined}
use Rattle.mine_widen.proofs.add_member.Goals as goal

pub loop-a-init : goal.loop-a-init
loop-a-init c = (search rules, search rules, below_none _, (λ j l. refl))

pub loop-a-preserved : goal.loop-a-preserved
loop-a-preserved c =
    let g = c.args in
    let a = c.loop-a.a in (
      search rules,
      search rules,
      store_next c.loop-a.met a c.union.result (joined g.matches.now g.side g.member g.met.now) c.loop-a.invariant.2
          (c.union.ensures ∙ ap (λ (x : ℕ). mask_of 64 (λ k. bit x k || bit (get_or g.matches.now (64 * (7 * g.side + a) + g.member) 0) k)) (c.loop-a.invariant.3 a (omega arith))) (omega arith),
      store_rest c.loop-a.met g.met.now a c.union.result c.loop-a.invariant.3,
    )

pub returns : goal.returns
returns c = let end = c.loop-a in (end.invariant.1, (λ a l. end.invariant.2 a (omega arith)))
