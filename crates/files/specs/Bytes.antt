-- Numbers and commands as bytes, and reading commands one after the other. 01, sections "The role file" and "The rule file".
-- Assumes nothing.
use Rattle.std.specs.Prelude.{ℕ, zero, suc, ◌+◌, ◌*◌, ◌/◌, ◌%◌, length, Bool, false, cond, List, [], ◌∷◌, ◌++◌}
use Rattle.std.proofs.Math.Option.{Option, none, some, map}
use Rattle.files.specs.Answer.{Refusal, Answer, and_then, refused, accepted}

-- "numbers wider than a byte stand low byte first": the number in the first w bytes, and the bytes behind it
abbrev pub number : ℕ → List ℕ → Option (ℕ × List ℕ)
number zero bs = some (0, bs)
number (suc w) [] = none
number (suc w) (b ∷ bs) = map (λ (p : ℕ × List ℕ). (b + 256 * p.0, p.1)) (number w bs)

-- one number, and then others, from the bytes behind it
abbrev pub one_more : (List ℕ → Option (List ℕ × List ℕ)) → Option (ℕ × List ℕ) → Option (List ℕ × List ℕ)
one_more go none = none
one_more go (some p) = map (λ (q : List ℕ × List ℕ). (p.0 ∷ q.0, q.1)) (go p.1)

-- the operands of the widths listed, and the bytes behind them
abbrev pub operands : List ℕ → List ℕ → Option (List ℕ × List ℕ)
operands [] bs = some ([], bs)
operands (w ∷ ws) bs = one_more (operands ws) (number w bs)

-- a number written in w bytes
abbrev pub spread : ℕ → ℕ → List ℕ
spread zero n = []
spread (suc w) n = n % 256 ∷ spread w (n / 256)

-- operands written in their widths
abbrev pub spread_all : List ℕ → List ℕ → List ℕ
spread_all [] xs = []
spread_all (w ∷ ws) [] = []
spread_all (w ∷ ws) (x ∷ xs) = spread w x ++ spread_all ws xs

-- A kind of file: its commands, and what is kept while it is read.
pub record Format (Command State : Type 0) : Type 0 where
  -- the widths of the operands behind a known command byte; the command that they make
  pub widths : ℕ → Option (List ℕ)
  pub command : ℕ → List ℕ → Command
  pub ends : Command → Bool
  -- what a command does; it may be refused
  pub obey : State → Command → Answer State
  -- the refusals: a byte after the end, an unknown command, a file that ends too early
  pub late : Refusal
  pub unknown : Refusal
  pub short : Refusal

module _ {Command State : Type 0} (T : Format Command State) where
  -- cut off, or the command's own refusals; then reading goes on behind it, with `go`
  abbrev pub turn : (Bool → State → List ℕ → Answer State) → State → ℕ → Option (List ℕ × List ℕ) → Answer State
  turn go s b none = refused T.short
  turn go s b (some p) = let c = T.command b p.0 in and_then (T.obey s c) (λ s'. go (T.ends c) s' p.1)

  -- an unknown command, or its turn
  abbrev pub decode : (Bool → State → List ℕ → Answer State) → State → ℕ → List ℕ → Option (List ℕ) → Answer State
  decode go s b bs none = refused T.unknown
  decode go s b bs (some ws) = turn go s b (operands ws bs)

  -- behind the end nothing may stand
  abbrev pub behind : State → List ℕ → Answer State
  behind s [] = accepted s
  behind s (b ∷ bs) = refused T.late

  -- by command, and in this order: a byte after the end, cut off before the end, an unknown command, and what decode says. `over`: the
  -- end was read. n is more than the number of commands
  abbrev pub read_on : ℕ → Bool → State → List ℕ → Answer State
  read_on zero over s bs = cond over (behind s bs) (refused T.short)
  read_on (suc n) over s [] = cond over (behind s []) (refused T.short)
  read_on (suc n) over s (b ∷ bs) = cond over (behind s (b ∷ bs)) (decode (read_on n) s b bs (T.widths b))

  abbrev pub read : State → List ℕ → Answer State
  read s bs = read_on (suc (length bs)) false s bs
