-- Where each rule of a rule file stands in its bytes. 02, request 2: "from its 21 up to the next command 21 or 2F".
-- Assumes nothing.
use Rattle.std.specs.Prelude.{ℕ, zero, suc, ◌+◌, eqb, length, get_or, drop, ◌||◌, List, [], ◌∷◌, ◌++◌}
use Rattle.files.specs.RuleFile.{widths_or, rule_widths}
use Rattle.sets.specs.Tests.{only, sum}

-- an operation set is W bytes wide: 2 for 16 operations
module _ (W : ℕ) where
  -- how many bytes a command takes, by its first byte: that byte, and those of its operands
  abbrev pub size_of : ℕ → ℕ
  size_of b = suc (sum (λ w. w) (widths_or (rule_widths W b)))

  -- the places of the commands 21 and 2F in bytes that begin at this place, from one command to the next: a 21 among operands is none. n is
  -- more than the number of commands
  abbrev pub marks_on : ℕ → ℕ → List ℕ → List ℕ
  marks_on zero at bs = []
  marks_on (suc n) at [] = []
  marks_on (suc n) at (b ∷ bs) = only (eqb b 0x21 || eqb b 0x2F) at ++ marks_on n (at + size_of b) (drop (size_of b) (b ∷ bs))

  -- where rule n of a file begins, or, if it has just n rules, its end
  unfoldable pub rule_start : List ℕ → ℕ → ℕ
  rule_start bs n = get_or (marks_on (suc (length bs)) 0 bs) n (length bs)
