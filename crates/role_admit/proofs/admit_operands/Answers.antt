use mathlib.Core.Path.{refl}
use Rattle.std.proofs.lemmas.Result.{err_from_is_err_and}
use Rattle.role_admit.specs.Admit.{operands_admitted}
use Rattle.role_admit.proofs.admit_operands.Goals as goal

pub returns-in-Sizes : goal.returns-in-Sizes
unfolding operands_admitted
returns-in-Sizes c = rw (c.in-Sizes.is, c.admit_sizes.ensures) refl

pub returns-in-Declare : goal.returns-in-Declare
unfolding operands_admitted
returns-in-Declare c = rw (c.in-Declare.is, c.admit_kind.ensures) refl

pub returns-in-Give : goal.returns-in-Give
unfolding operands_admitted
returns-in-Give c = rw (c.in-Give.is, c.admit_value.ensures) refl

pub returns-in_err-below-in-Assign : goal.returns-in_err-below-in-Assign
unfolding operands_admitted
returns-in_err-below-in-Assign c =
    let p = err_from_is_err_and c.from_residual.result c.from_residual.ensures.1 in
    rw (p.1, p.2, c.in-Assign.is, ← c.in_err-below-in-Assign.ensures) refl

pub returns-in_ok-below-in-Assign : goal.returns-in_ok-below-in-Assign
unfolding operands_admitted
returns-in_ok-below-in-Assign c = rw (c.in-Assign.is, c.below-in-Assign.ensures, ← c.in_ok-below-in-Assign.ensures) refl

pub returns-in_err-below-in-Permit : goal.returns-in_err-below-in-Permit
unfolding operands_admitted
returns-in_err-below-in-Permit c =
    let p = err_from_is_err_and c.from_residual-in_err-below-in-Permit.result c.from_residual-in_err-below-in-Permit.ensures.1 in
    rw (p.1, p.2, c.in-Permit.is, ← c.in_err-below-in-Permit.ensures) refl

pub returns-in_err-below-in-Permit-2 : goal.returns-in_err-below-in-Permit-2
unfolding operands_admitted
returns-in_err-below-in-Permit-2 c =
    let p = err_from_is_err_and c.from_residual-in_err-below-in-Permit-2.result c.from_residual-in_err-below-in-Permit-2.ensures.1 in
    rw (p.1, p.2, c.in-Permit.is, ← c.in_ok-below-in-Permit.ensures, ← c.in_err-below-in-Permit-2.ensures) refl

pub returns-in_ok-below-in-Permit-2 : goal.returns-in_ok-below-in-Permit-2
unfolding operands_admitted
returns-in_ok-below-in-Permit-2 c = rw (c.in-Permit.is, c.below-in-Permit-3.ensures, ← c.in_ok-below-in-Permit.ensures, ← c.in_ok-below-in-Permit-2.ensures) refl

pub returns-in_err-below-in-Line : goal.returns-in_err-below-in-Line
unfolding operands_admitted
returns-in_err-below-in-Line c =
    let p = err_from_is_err_and c.from_residual-in_err-below-in-Line.result c.from_residual-in_err-below-in-Line.ensures.1 in
    rw (p.1, p.2, c.in-Line.is, ← c.in_err-below-in-Line.ensures) refl

pub returns-in_ok-below-in-Line : goal.returns-in_ok-below-in-Line
unfolding operands_admitted
returns-in_ok-below-in-Line c = rw (c.in-Line.is, c.below-in-Line-2.ensures, ← c.in_ok-below-in-Line.ensures) refl

pub returns-in-End : goal.returns-in-End
unfolding operands_admitted
returns-in-End c = rw (c.in-End.is) refl
