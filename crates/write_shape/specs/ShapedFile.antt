-- The bytes of a rule file whole: the form in which code writes them.
-- Assumes nothing.
use Rattle.std.specs.Prelude.{ℕ, List, ◌∷◌, ◌++◌}

-- 20 and its operands, and behind them the rules
abbrev pub shaped_bytes : List ℕ → List ℕ → List ℕ
shaped_bytes shape rules = 0x20 ∷ (shape ++ rules)
