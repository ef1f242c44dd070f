use lib.Dec.{eqb, ltb}
use borrow.Author.Tests.{eqb-true, eq-eqb, ltb-true, lt-ltb}
use lib.Pow.{pow_pos}
use mathlib.Core.Path.{◌≡◌, ap, ◌∙◌, sym, subst}
use native.Mathlib.Nat.{div-add-mod', mod-lt, div-eq_of_lt, zero-mul, zero-add}
use Prim.Native.Nat.{ℕ, ◌+◌, ◌*◌, ◌/◌, ◌%◌, ◌^◌, ◌<◌}
use Rattle.sets.specs.TestLaws.{same}
use Rattle.rule_legal.proofs.all_below.Goals as goal

-- nothing is left behind n places just where the number is below 2 ^ n
nothing_above : (m d : ℕ) → 0 < d → eqb (m / d) 0 ≡ ltb m d
nothing_above m d p =
    same (eqb (m / d) 0) (ltb m d)
    (λ h. lt-ltb m d (subst (λ (x : ℕ). x < d) (sym (zero-add (m % d)) ∙ ap (λ (q : ℕ). q + m % d) (sym (ap (λ (q : ℕ). q * d) (eqb-true (m / d) 0 h) ∙ zero-mul d)) ∙ div-add-mod' m d) (mod-lt m p)))
    (λ h. eq-eqb (m / d) 0 (div-eq_of_lt (ltb-true m d h)))

pub returns : goal.returns
returns c = nothing_above c.args.m (2 ^ c.args.n) (pow_pos c.args.n)
