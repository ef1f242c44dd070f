use borrow.Author.Tests.{lt-ltb, le-ltb}
use mathlib.Core.Path.{◌≡◌, refl, sym, ap, ◌∙◌}
use Rattle.file_bytes.specs.Numbers.{number_at}
use Rattle.role_commands.specs.Decode.{decoded_of, width_of}
use Rattle.role_commands.proofs.decode.Goals as goal
use Rattle.role_commands.proofs.decode.Goals.{After-width}

-- the first byte is asked for its width
front : (c : After-width) → width_of (number_at 1 c.args.s.now 0) ≡ c.width.result
front c = ap width_of (sym c.byte_at-b.ensures.0) ∙ sym c.width.ensures

pub returns-then-is_empty : goal.returns-then-is_empty
unfolding decoded_of
returns-then-is_empty c = rw (sym c.is_empty.ensures ∙ c.if-is_empty.true) refl

pub returns-in_default : goal.returns-in_default
unfolding decoded_of
returns-in_default c = rw (sym c.is_empty.ensures ∙ c.if-is_empty.false, front (goal.at.returns-in_default c).After-width, c.in_default.is) refl

pub returns-then-s-w : goal.returns-then-s-w
unfolding decoded_of
returns-then-s-w c = rw (sym c.is_empty.ensures ∙ c.if-is_empty.false, front (goal.at.returns-then-s-w c).After-width, c.in-Some.is, lt-ltb _ _ c.if-s-w.true) refl

pub returns : goal.returns
unfolding decoded_of
returns c =
    rw (c.operands.ensures, c.byte_at-b.ensures.0, sym c.is_empty.ensures ∙ c.if-is_empty.false, front (goal.at.returns c).After-width, c.in-Some.is, le-ltb _ _ c.if-s-w.false) refl
