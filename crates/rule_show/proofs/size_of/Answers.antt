-- Each byte takes as much as its widths say. Assumes nothing.
use Prim.Native.Nat.{ℕ}
use borrow.Author.Tests.{ne_eqb}
use mathlib.Core.Logic.{⊎_elim}
use mathlib.Core.Path.{◌≡◌, sym, ap}
use native.Mathlib.Omega.{arith}
use Rattle.files.specs.RulePart.{size_of}
use Rattle.rule_show.proofs.size_of.Goals as goal

-- the size of a byte that is another's
of : {b : ℕ} (k : ℕ) → b ≡ k → size_of 2 k ≡ size_of 2 b
of k e = ap (size_of 2) (sym e)

pub returns-in-33 : goal.returns-in-33
returns-in-33 c = (⊎_elim (of 0x21) (of 0x2F) c.in-33.is, omega arith)

pub returns-in-34 : goal.returns-in-34
returns-in-34 c = (⊎_elim (of 0x22) (⊎_elim (of 0x24) (of 0x28)) c.in-34.is, omega arith)

pub returns-in-35 : goal.returns-in-35
returns-in-35 c = (⊎_elim (of 0x23) (of 0x25) c.in-35.is, omega arith)

pub returns-in-38 : goal.returns-in-38
returns-in-38 c = (of 0x26 c.in-38.is, omega arith)

pub returns-in-39 : goal.returns-in-39
returns-in-39 c = (of 0x27 c.in-39.is, omega arith)

pub returns-in-32 : goal.returns-in-32
returns-in-32 c = (of 0x20 c.in-32.is, omega arith)

pub returns-in-41 : goal.returns-in-41
returns-in-41 c = (of 0x29 c.in-41.is, omega arith)

pub returns-in_default : goal.returns-in_default
returns-in_default c = (
  simp (ne_eqb c.args.b 0x21 (λ e. grind arith), ne_eqb c.args.b 0x2F (λ e. grind arith), ne_eqb c.args.b 0x22 (λ e. grind arith), ne_eqb c.args.b 0x24 (λ e. grind arith), ne_eqb c.args.b 0x28 (λ e. grind arith), ne_eqb c.args.b 0x23 (λ e. grind arith), ne_eqb c.args.b 0x25 (λ e. grind arith), ne_eqb c.args.b 0x26 (λ e. grind arith), ne_eqb c.args.b 0x27 (λ e. grind arith), ne_eqb c.args.b 0x20 (λ e. grind arith), ne_eqb c.args.b 0x29 (λ e. grind arith)),
  omega arith,
)
