use mathlib.Core.Path.{refl}
use Rattle.std.proofs.lemmas.Result.{err_from_is_err_and}
use Rattle.role_admit.specs.Admit.{kind_admitted}
use Rattle.role_admit.proofs.admit_kind.Goals as goal

pub returns-in_err-below : goal.returns-in_err-below
unfolding kind_admitted
returns-in_err-below c =
    let p = err_from_is_err_and c.from_residual.result c.from_residual.ensures.1 in
    rw (p.1, p.2, ← c.in_err-below.ensures) refl

pub returns-in_err-below-2 : goal.returns-in_err-below-2
unfolding kind_admitted
returns-in_err-below-2 c =
    let p = err_from_is_err_and c.from_residual-in_err-below-2.result c.from_residual-in_err-below-2.ensures.1 in
    rw (p.1, p.2, ← c.in_ok-below.ensures, ← c.in_err-below-2.ensures) refl

pub returns : goal.returns
unfolding kind_admitted
returns c = rw (c.below-3.ensures, ← c.in_ok-below.ensures, ← c.in_ok-below-2.ensures) refl
