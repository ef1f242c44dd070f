use mathlib.Core.List.{[], ◌∷◌}
use mathlib.Core.Path.{◌≡◌, ap, ◌∙◌}
use native.Mathlib.Omega.{arith}
use Prim.Native.Nat.{ℕ, suc, ◌+◌}
use Rattle.std.specs.Prelude.{Ok}
use Rattle.file_bytes.specs.Numbers.{total_of}
use Rattle.rule_commands.specs.Raw.{line}
use Rattle.rule_commands.specs.RawLaws.{taken-short, taken-whole}
use Rattle.rule_commands.proofs.taken.Goals as goal

pub returns-then-s-width : goal.returns-then-s-width
returns-then-s-width g c = taken-short (g.row.FIRST ∷ g.row.SECOND ∷ c.args.further ∷ []) _ c.args.s.now (omega (arith, c.if-s-width.true))

pub returns : goal.returns
returns g c =
    let ws = g.row.FIRST ∷ g.row.SECOND ∷ c.args.further ∷ [] in
    let e : 1 + g.row.FIRST + g.row.SECOND + c.args.further ≡ suc (total_of (g.row.FIRST ∷ g.row.SECOND ∷ c.args.further ∷ [])) = omega arith in
    ap (λ (w : ℕ). Ok (line c.args.byte c.number-first.result c.number-second.result, w)) e
    ∙ taken-whole ws _ c.args.s.now _ _ (omega (arith, c.if-s-width.false)) c.number-first.ensures c.number-second.ensures
