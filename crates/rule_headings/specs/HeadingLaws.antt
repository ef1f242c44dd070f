-- Reading a rule's lines one by one.
-- Assumes nothing.
use Rattle.std.specs.Prelude.{ℕ, zero, suc, ◌+◌, ◌≤◌, ◌<◌, length, drop, true, false, List, [], ◌∷◌, ◌≡◌, refl, Ok, Err}
use Rattle.std.proofs.Common.{length-drop, sym, ap, ◌∙◌, arith}
use Rattle.files.specs.declared.refusal.Refusal.{Refusal}
use Rattle.rule_headings.specs.Headings.{in_rule, noted, heading_on, heading_of}
use Rattle.rule_commands.specs.Raw.{raw_of}
use Rattle.rule_commands.specs.RawLaws.{raw_none, front-whole}
use Rattle.rule_commands.specs.declared.Raw.{Raw}
use Rattle.rule_headings.specs.declared.Heading.{Heading}

-- a line takes bytes, and no more than there are
pub line-inside : (s : List ℕ) (a : Raw) (w : ℕ) → raw_of s ≡ Ok (a, w) → (0 < w) × (w ≤ length s)
line-inside [] a w e = let q = sym raw_none ∙ e in let z : ◌≡◌ {A = ℕ} 0 1 = cc in absurd (omega arith)
line-inside (c ∷ cs) a w e =
    let f = front-whole c cs a w e in
    let h = f.fits in
    let k = f.size in
    (omega arith, omega arith)

-- ---- reading on

-- reading on from here with this heading gives the rule's
pub record Reading (s : List ℕ) (h : Heading) (rest : List ℕ) : Type 0 where
  pub fuel : ℕ
  pub enough : length rest < fuel
  pub goes_on : heading_on fuel h rest ≡ heading_of s

pub begun : (s : List ℕ) → Reading s (record { operations = 0; level = 0 }) s
unfolding heading_of
begun s = record { fuel = suc (length s); enough = omega arith; goes_on = refl }

module _ (s : List ℕ) (h : Heading) (rest : List ℕ) (r : Reading s h rest) where
  -- where there is no line in front
  pub ended : (e : Refusal) → raw_of rest ≡ Err e → h ≡ heading_of s
  ended e k = go r.fuel r.goes_on
    where
      go : (n : ℕ) → heading_on n h rest ≡ heading_of s → h ≡ heading_of s
      go zero q = q
      go (suc n) q = sym (rw (heading_on, k) refl) ∙ q

  module _ (a : Raw) (w : ℕ) (k : raw_of rest ≡ Ok (a, w)) where
    -- or one that does not stand inside the rule
    pub left : in_rule a.byte ≡ false → h ≡ heading_of s
    left e = go r.fuel r.goes_on
      where
        go : (n : ℕ) → heading_on n h rest ≡ heading_of s → h ≡ heading_of s
        go zero q = q
        go (suc n) q = sym (rw (heading_on, k, e) refl) ∙ q

    pub one_more : in_rule a.byte ≡ true → Reading s (noted h a) (drop w rest)
    one_more e = go r.fuel r.enough r.goes_on
      where
        go : (n : ℕ) → length rest < n → heading_on n h rest ≡ heading_of s → Reading s (noted h a) (drop w rest)
        go zero m q = absurd (omega arith)
        go (suc n) m q =
            let i = line-inside rest a w k in
            record { fuel = n; enough = omega (arith, length-drop w rest); goes_on = sym (rw (heading_on, k, e) refl) ∙ q }
