-- What stands at the front of bytes, by place: the form in which code works it out.
-- Assumes nothing.
use Rattle.std.specs.Prelude.{ℕ, eqb, ltb, length, true, false, cond, List, Option, Some, None, Result, Ok, Err}
use Rattle.files.specs.declared.refusal.Refusal.{Refusal}
use Rattle.files.specs.declared.refusal.Refusal.TheVariants.{CutOff, UnknownCommand}
use Rattle.role_commands.specs.declared.Command.{Command}
use Rattle.role_commands.specs.declared.Command.TheVariants.{Sizes, Declare, Give, Assign, Permit, Line, End}
use Rattle.file_bytes.specs.Numbers.{number_at}

-- the bytes that a command takes, where there is such a command
unfoldable pub width_of : ℕ → Option ℕ
width_of b = cond (eqb b 1) (Some 5) (cond (eqb b 2) (Some 3) (cond (eqb b 3) (Some 6) (cond (eqb b 4) (Some 12) (cond (eqb b 5) (Some 3) (cond (eqb b 6) (Some 4) (cond (eqb b 7) (Some 3) (cond (eqb b 8) (Some 4) (cond (eqb b 15) (Some 1) None))))))))

-- the command of byte b with its operands from place 1 on
unfoldable pub command_by : ℕ → List ℕ → Command
command_by b l =
    cond (eqb b 1) (Sizes (number_at 1 l 1) (number_at 1 l 2) (number_at 1 l 3) (number_at 1 l 4))
    (cond (eqb b 2) (Declare (number_at 1 l 1) (number_at 1 l 2) 0)
    (cond (eqb b 3) (Give false (number_at 1 l 1) (number_at 1 l 2) (number_at 1 l 3) (number_at 2 l 4))
    (cond (eqb b 4) (Give true (number_at 1 l 1) (number_at 1 l 2) (number_at 1 l 3) (number_at 8 l 4))
    (cond (eqb b 5) (Assign (number_at 1 l 1) (number_at 1 l 2))
    (cond (eqb b 6) (Permit (number_at 1 l 1) (number_at 1 l 2) (number_at 1 l 3))
    (cond (eqb b 7) (Line (number_at 1 l 1) (number_at 1 l 2))
    (cond (eqb b 8) (Declare (number_at 1 l 1) (number_at 1 l 2) (number_at 1 l 3)) End)))))))

-- the first command of the bytes and its width; refused where there is no such command, or where the bytes are fewer than it takes
abbrev pub first_command : List ℕ → Option ℕ → Result (Command × ℕ) Refusal
first_command l None = Err UnknownCommand
first_command l (Some w) = cond (ltb (length l) w) (Err CutOff) (Ok (command_by (number_at 1 l 0) l, w))

-- no bytes at all are cut off too
unfoldable pub decoded_of : List ℕ → Result (Command × ℕ) Refusal
decoded_of l = cond (eqb (length l) 0) (Err CutOff) (first_command l (width_of (number_at 1 l 0)))
