-- What is kept, part by part.
-- Assumes nothing.
use Rattle.std.specs.Prelude.{ℕ, Bool, true, false, List, ◌≡◌}
use Rattle.std.proofs.Math.Bool.{cond}
use Rattle.std.proofs.Math.Path.{sym, ap₂}
use Rattle.std.proofs.Common.{ap, ◌∙◌}
use Rattle.write_kept.specs.Kept.{kept_at, kept_head}
use Rattle.mine_parts.specs.Layout.{rest_at, level_in, words_at, is_head_at}
use Rattle.mine_rows.specs.KeptPlaces.{kept_in}
use Rattle.mine_theory.specs.Words.Words.{Words}

-- ---- what is kept

module _ (links matches known attributes : List ℕ) (users resources operations : ℕ) (t : List ℕ) where
  pub kept-some : (i : ℕ) (W : Words) (l r : ℕ) → is_head_at t i ≡ true → W ≡ words_at t i → l ≡ level_in (rest_at t i) → r ≡ kept_in links matches known attributes users resources operations W l
      → r ≡ kept_head links matches known attributes users resources operations t i
  unfolding kept_head kept_at
  kept-some i W l r h e f g =
      g ∙ ap₂ (λ (X : Words) (n : ℕ). kept_in links matches known attributes users resources operations X n) e f
      ∙ sym (ap (λ (b : Bool). cond b (kept_in links matches known attributes users resources operations (words_at t i) (level_in (rest_at t i))) 0) h)

  pub kept-none : (i : ℕ) → is_head_at t i ≡ false → 0 ≡ kept_head links matches known attributes users resources operations t i
  unfolding kept_head
  kept-none i h = sym (ap (λ (b : Bool). cond b (kept_at links matches known attributes users resources operations t i) 0) h)
