use Prim.Native.Nat.{ℕ}
use borrow.Author.Rules.{rules}
use mathlib.Core.Path.{sym, ap, ◌∙◌}
use Rattle.mine_words.specs.AtomLaws.{declared-low, true_still, still-begin, still-low, still-turn, still-done}
use Rattle.sets.specs.declared.Ascending.{Ascending}
use Rattle.mine_words.proofs.atoms_of.Goals as goal

pub loop-user-init : goal.loop-user-init
loop-user-init c =
    let a = c.args in
    let r = ap (λ (s : Ascending). s.rest) c.into_iter-user-iterator.ensures.into_iter_gives ∙ c.members-user-items.ensures in
    (declared-low a.attributes.now _ c.declared-m.ensures, search rules, ap (λ (m : ℕ). true_still a.links.now c.declared-m.result m a.resources) r ∙ still-begin a.links.now a.attributes.now a.users a.resources _ c.declared-m.ensures)

pub loop-user-preserved : goal.loop-user-preserved
loop-user-preserved c =
    let turn = c.loop-user in
    let a = c.args in
    let t = c.in-Some.ensures.steps in (
      still-low a.links.now turn.m c.in-Some.user a.resources _ c.true_of_user-m.ensures,
      search rules,
      ap (λ (m : ℕ). true_still a.links.now c.true_of_user-m.result m a.resources) t.others
          ∙ still-turn a.links.now turn.m _ turn.user-iterator.rest c.in-Some.user a.resources turn.invariant.1 t.below t.member c.true_of_user-m.ensures
          ∙ turn.invariant.2,
    )

pub returns : goal.returns
returns c =
    let end = c.loop-user in
    let a = c.args in
    sym (still-done a.links.now end.m end.user-iterator.rest a.resources end.invariant.0 c.in-None.ensures.steps.0) ∙ end.invariant.2
