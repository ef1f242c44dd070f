-- Cuts told one after the other: what is known before the first, at each and behind the last.
-- Assumes nothing.
use Rattle.std.specs.Prelude.{ℕ, zero, suc, ◌+◌, ◌≤◌, ◌<◌, length, get_or, drop, true, false, List, [], ◌∷◌, ◌≡◌, refl}
use Rattle.std.proofs.Common.{le-ltb, lt-ltb, drop-cons, sym, ap, ◌∙◌, arith}
use Rattle.files.specs.Calls.{cuts_ok}
use Rattle.files.proofs.CutLaws.{cuts_behind, cuts_told}

drop-none : (l : List ℕ) (i : ℕ) → length l ≤ i → drop i l ≡ []
drop-none [] zero h = refl
drop-none [] (suc i) h = refl
drop-none (x ∷ l) zero h = absurd (omega arith)
drop-none (x ∷ l) (suc i) h = drop-none l i (omega arith)

module _ (cuts : List ℕ) (roles : ℕ) where
  pub cuts_begin : cuts_ok cuts roles ≡ cuts_behind roles 0 (drop 0 cuts)
  cuts_begin = cuts_told cuts roles

  module _ (low i : ℕ) (h : cuts_ok cuts roles ≡ cuts_behind roles low (drop i cuts)) where
    pub cuts_end : length cuts ≤ i → true ≡ cuts_ok cuts roles
    cuts_end l = sym (h ∙ ap (cuts_behind roles low) (drop-none cuts i l))

    module _ (l : i < length cuts) (c : ℕ) (e : c ≡ get_or cuts i 0) where
      at : cuts_ok cuts roles ≡ cuts_behind roles low (c ∷ drop (i + 1) cuts)
      at =
          let next : suc i ≡ i + 1 = omega arith in
          h ∙ ap (cuts_behind roles low) (drop-cons cuts i 0 l ∙ ap (λ (k : ℕ). get_or cuts i 0 ∷ drop k cuts) next)
          ∙ ap (λ (d : ℕ). cuts_behind roles low (d ∷ drop (i + 1) cuts)) (sym e)

      pub cuts_low : c ≤ low → false ≡ cuts_ok cuts roles
      cuts_low k = sym (at ∙ rw (le-ltb low c k) refl)

      pub cuts_high : low < c → roles ≤ c → false ≡ cuts_ok cuts roles
      cuts_high k m = sym (at ∙ rw (lt-ltb low c k, le-ltb c roles m) refl)

      pub cuts_turn : low < c → c < roles → cuts_ok cuts roles ≡ cuts_behind roles c (drop (i + 1) cuts)
      cuts_turn k m = at ∙ rw (lt-ltb low c k, lt-ltb c roles m) refl
