use mathlib.Core.Path.{refl}
use Rattle.std.proofs.lemmas.Result.{err_from_is_err_and}
use Rattle.role_admit.specs.Admit.{value_admitted}
use Rattle.sets.specs.TestLaws.{beq_iff}
use Rattle.role_admit.proofs.admit_value.Goals as goal

pub returns-in_err-below : goal.returns-in_err-below
unfolding value_admitted
returns-in_err-below c =
    let p = err_from_is_err_and c.from_residual.result c.from_residual.ensures.1 in
    rw (p.1, p.2, ← c.in_err-below.ensures) refl

pub returns-in_err-below-2 : goal.returns-in_err-below-2
unfolding value_admitted
returns-in_err-below-2 c =
    let p = err_from_is_err_and c.from_residual-in_err-below-2.result c.from_residual-in_err-below-2.ensures.1 in
    rw (p.1, p.2, ← c.in_ok-below.ensures, ← c.in_err-below-2.ensures) refl

pub returns-in_err-below-3 : goal.returns-in_err-below-3
unfolding value_admitted
returns-in_err-below-3 c =
    let p = err_from_is_err_and c.from_residual-in_err-below-3.result c.from_residual-in_err-below-3.ensures.1 in
    rw (p.1, p.2, ← c.in_ok-below.ensures, ← c.in_ok-below-2.ensures, ← c.size_of.ensures, ← c.in_err-below-3.ensures) refl

pub returns-in_err-check : goal.returns-in_err-check
unfolding value_admitted
returns-in_err-check c =
    let p = err_from_is_err_and c.from_residual-in_err-check.result c.from_residual-in_err-check.ensures.1 in
    rw (p.1, p.2, ← c.in_ok-below.ensures, ← c.in_ok-below-2.ensures, ← c.size_of.ensures, ← c.in_ok-below-3.ensures, ← c.has.ensures, ← beq_iff c.has.result c.args.set, ← c.in_err-check.ensures) refl

pub returns : goal.returns
unfolding value_admitted
returns c = rw (c.check-2.ensures, c.has-2.ensures, ← c.in_ok-below.ensures, ← c.in_ok-below-2.ensures, ← c.size_of.ensures, ← c.in_ok-below-3.ensures, ← c.has.ensures, ← beq_iff c.has.result c.args.set, ← c.in_ok-check.ensures) refl
