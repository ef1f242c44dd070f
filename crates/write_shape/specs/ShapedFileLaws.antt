-- A rule file is written in two runs: the 20 with its six operands, and the rules.
-- Assumes nothing.
use Rattle.std.specs.Prelude.{ℕ, ◌+◌, ◌≤◌, length, List, [], ◌∷◌, ◌++◌, ◌≡◌}
use Rattle.std.proofs.Common.{length-append, append-nil, sym, ap, subst, arith}
use Rattle.write_lines.specs.Writing.{wrote}
use Rattle.write_lines.proofs.WritingLaws.{tail_of, back_in, Writing, write_on, all-written}
use Rattle.write_shape.specs.ShapedFile.{shaped_bytes}
use Rattle.write_theory.proofs.SectionLaws.{opened}

module _ (shape rules o out : List ℕ) (six : length shape ≡ 6) (h : 7 + length rules ≤ length o) (w : out ≡ wrote (0x20 ∷ shape) o) where
  -- the 20 is written, the rules are left
  shape-written : Writing (shaped_bytes shape rules) o out 7 (rules ++ [])
  shape-written =
      let l = length-append shape rules in
      let s : length (0x20 ∷ shape) ≡ 7 = omega (arith, six) in
      subst (λ (k : ℕ). Writing (shaped_bytes shape rules) o out k (rules ++ [])) s
      (opened (shaped_bytes shape rules) o out (rules ++ []) (0x20 ∷ shape) (ap (λ (r : List ℕ). 0x20 ∷ (shape ++ r)) (sym (append-nil rules))) (omega (arith, l, six, h)) w)

  -- THE LAW: then the whole file is written
  pub file-written : (tail : List ℕ) → tail ≡ wrote rules (tail_of out 7) → back_in out 7 tail ≡ wrote (shaped_bytes shape rules) o
  file-written tail e =
      (all-written (shaped_bytes shape rules) o (back_in out 7 tail) (7 + length rules) (write_on (shaped_bytes shape rules) o out [] rules 7 tail shape-written e)).1
