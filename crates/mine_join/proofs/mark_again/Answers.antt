-- Assumes nothing.
use Prim.Native.Nat.{ℕ, ◌^◌, ◌<◌}
use borrow.Author.Rules.{rules}
use mathlib.Core.Path.{sym, ap, ◌∙◌, subst}
use native.Mathlib.Omega.{arith}
use Rattle.mine_join.specs.JoinedLaws.{open_joined}
use Rattle.mine_theory.specs.Words.Words.{Words}
use Rattle.mine_join.proofs.mark_again.Goals as goal

pub returns-then-operations_at-g : goal.returns-then-operations_at-g
returns-then-operations_at-g c t s level J head one w O =
    let a = c.args in
    open_joined c.requires.0 (omega (arith, c.requires.1, c.requires.2)) J head s one a.ready.now _ (subst (λ (m : ℕ). m < 2 ^ 64) (ap (λ (W : Words). W.users) w) (search rules)) (subst (λ (m : ℕ). m < 2 ^ 64) (ap (λ (W : Words). W.resources) w) (search rules))
    (sym c.operations_at.ensures ∙ c.if-operations_at-g.true ∙ ap (λ (W : Words). W.ops) w) c.unmark.ensures O
