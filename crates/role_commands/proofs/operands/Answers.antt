use Rattle.role_commands.specs.Decode.{command_by}
use borrow.Author.Tests.{ne_eqb}
use mathlib.Core.Path.{refl}
use Rattle.role_commands.proofs.operands.Goals as goal

pub returns-in-1 : goal.returns-in-1
unfolding command_by
returns-in-1 c = rw (c.in-1.is, c.byte_at-in-1-3.ensures.0, c.byte_at-in-1-2.ensures.0, c.byte_at-in-1.ensures.0, c.byte_at.ensures.0) refl

pub returns-in-2 : goal.returns-in-2
unfolding command_by
returns-in-2 c = rw (c.in-2.is, c.byte_at-in-2-2.ensures.0, c.byte_at-in-2.ensures.0) refl

pub returns-in-3 : goal.returns-in-3
unfolding command_by
returns-in-3 c = rw (c.in-3.is, c.number.ensures, c.byte_at-in-3-3.ensures.0, c.byte_at-in-3-2.ensures.0, c.byte_at-in-3.ensures.0) refl

pub returns-in-4 : goal.returns-in-4
unfolding command_by
returns-in-4 c = rw (c.in-4.is, c.number-in-4.ensures, c.byte_at-in-4-3.ensures.0, c.byte_at-in-4-2.ensures.0, c.byte_at-in-4.ensures.0) refl

pub returns-in-5 : goal.returns-in-5
unfolding command_by
returns-in-5 c = rw (c.in-5.is, c.byte_at-in-5-2.ensures.0, c.byte_at-in-5.ensures.0) refl

pub returns-in-6 : goal.returns-in-6
unfolding command_by
returns-in-6 c = rw (c.in-6.is, c.byte_at-in-6-3.ensures.0, c.byte_at-in-6-2.ensures.0, c.byte_at-in-6.ensures.0) refl

pub returns-in-7 : goal.returns-in-7
unfolding command_by
returns-in-7 c = rw (c.in-7.is, c.byte_at-in-7-2.ensures.0, c.byte_at-in-7.ensures.0) refl

pub returns-in-8 : goal.returns-in-8
unfolding command_by
returns-in-8 c = rw (c.in-8.is, c.byte_at-in-8-3.ensures.0, c.byte_at-in-8-2.ensures.0, c.byte_at-in-8.ensures.0) refl

pub returns-in_default : goal.returns-in_default
unfolding command_by
returns-in_default c =
    let n = c.in_default.in_default-own.rest in
    simp (ne_eqb _ _ n.1, ne_eqb _ _ n.0.1, ne_eqb _ _ n.0.0.1, ne_eqb _ _ n.0.0.0.1, ne_eqb _ _ n.0.0.0.0.1, ne_eqb _ _ n.0.0.0.0.0.1, ne_eqb _ _ n.0.0.0.0.0.0.1, ne_eqb _ _ n.0.0.0.0.0.0.0.1)
