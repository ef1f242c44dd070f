use lib.ListN.{get_or}
use mathlib.Core.Bool.{Bool, true, false, cond}
use mathlib.Core.List.{List}
use mathlib.Core.Path.{◌≡◌, refl, sym, ◌∙◌}
use Prim.Native.Nat.{ℕ}
use Rattle.rule_listings.specs.Listed.{once_in}
use Rattle.sets.specs.Sets.{bit}
use Rattle.rule_listings.proofs.once.Goals as goal

-- the verdict, by the outcome of the first test
by-test : (seen again : List ℕ) (k o : ℕ) (b : Bool) → bit (get_or again k 0) o ≡ b → once_in seen again k o ≡ cond b false (bit (get_or seen k 0) o)
unfolding once_in
by-test seen again k o b e = rw e refl

pub returns-then-has : goal.returns-then-has
returns-then-has c = sym (by-test _ _ _ _ true (sym c.has.ensures ∙ c.if-has.true))

pub returns : goal.returns
returns c = c.has-2.ensures ∙ sym (by-test _ _ _ _ false (sym c.has.ensures ∙ c.if-has.false))
