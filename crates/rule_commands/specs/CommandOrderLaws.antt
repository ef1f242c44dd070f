-- A command follows the lines of a rule exactly if it comes after the last of them.
-- Assumes nothing.
use Rattle.std.specs.Prelude.{◌≡◌, ◌≤◌, Bool, ◌&&◌, [], ◌∷◌, ◌++◌, refl}
use Rattle.std.proofs.Common.{lt-ltb, sym, ap, ap₂, ◌∙◌, arith}
use Rattle.std.proofs.Math.Bool.{and-false}
use Rattle.files.specs.RuleFile.{byte_of, operands_of, precedes, Lines}
use Rattle.rule_commands.specs.Raw.{raw_before, command_of, InOrder, Shape}
use Rattle.rule_commands.specs.RawLaws.{shape-second, raw-before}
use Rattle.rule_commands.specs.declared.Raw.{Raw}
use Rattle.sets.specs.ListLaws.{all-last}
use Rattle.sets.specs.SortedLaws.{before-chain}
use Rattle.sets.specs.TestLaws.{or_l, test, all-out, all_in}
use Rattle.sets.specs.Tests.{Is, all}

-- behind a 21
pub order-none : (a : Raw) → a.byte ≡ 0x21 → InOrder a []
unfolding raw_before
order-none a e b s l m = sym (or_l _ (lt-ltb a.byte b.byte (omega arith)))

-- behind one more
pub order-more : (a b : Raw) (ls : Lines) → InOrder a ls → Shape b → 0x22 ≤ b.byte → b.byte ≤ 0x29 → Is (raw_before a b) → InOrder b (ls ++ (command_of b ∷ []))
order-more a b ls h s l m q e t k n =
    all-last (λ d. precedes d (command_of e)) ls (command_of b)
    ∙ test (precedes (command_of b) (command_of e))
    (λ p. ap₂ ◌&&◌ (all_in (λ d. precedes d (command_of e)) ls (λ d i. before-chain (byte_of d ∷ operands_of d) (byte_of (command_of b) ∷ operands_of (command_of b)) (byte_of (command_of e) ∷ operands_of (command_of e)) (all-out (λ d. precedes d (command_of b)) (h b s l m ∙ q) i) p)) refl)
    (λ p. ap (λ (t : Bool). all (λ d. precedes d (command_of e)) ls && t) p ∙ and-false (all (λ d. precedes d (command_of e)) ls) ∙ sym p)
    ∙ sym (raw-before b e (omega arith) m k n (shape-second t))
