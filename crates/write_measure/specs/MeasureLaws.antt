-- The loops that measure and write a rule file, part by part.
-- Assumes nothing.
use Rattle.std.specs.Prelude.{ℕ, ◌+◌, ◌*◌, ◌≤◌, ◌<◌, get_or, Bool}
use Rattle.std.proofs.Math.ListN.{length, set, length-append}
use Rattle.std.proofs.Math.Bool.{true, false, cond}
use mathlib.Core.List.{List, [], ◌∷◌, ◌++◌}
use Rattle.std.proofs.Math.Path.{◌≡◌, refl, sym, ap, ap₂}
use Rattle.std.proofs.Common.{◌∙◌, subst}
use native.Mathlib.Omega.{arith}
use Rattle.write_measure.specs.FileTable.{rule_at, sums_at, file_bytes, measured_of, sums_with, rule_with}
use Rattle.write_theory.proofs.SectionLaws.{bytes_most, runs_most}
use Rattle.write_lines.specs.Writing.{wrote}
use Rattle.write_lines.proofs.WritingLaws.{length-wrote, Runs, runs_end}
use Rattle.mine_groups.specs.Scratch.{all_parts}
use Rattle.sets.specs.ListLaws.{each_more, keep-more}
use Rattle.sets.specs.Tests.{keep, each, only, up_to}
use Rattle.mine_parts.specs.Layout.{most_parts, is_head_at}
use Rattle.write_measure.specs.declared.Measured.{Measured}
use Rattle.write_cost.specs.CostSumLaws.{all_more, all_most}
use Rattle.write_cost.specs.CostSums.{no_sums, added, all_sums, AtMost}
use Rattle.write_cost.specs.declared.Sums.{Sums}
use Rattle.write_theory.specs.RuleLists.{rule_sums_in}
use Rattle.write_theory.specs.RuleTable.{rule_bytes_in}
use Rattle.write_theory.proofs.ListingLaws.{sums_most}

-- the last byte behind what was written
pub end-written : (e o : List ℕ) (x : ℕ) → length (e ++ (x ∷ [])) ≤ length o → set (wrote e o) (length e) x ≡ wrote (e ++ (x ∷ [])) o
end-written [] [] x h = absurd (omega arith)
end-written [] (y ∷ o) x h = refl
end-written (a ∷ e) [] x h = absurd (omega arith)
end-written (a ∷ e) (y ∷ o) x h = ap (λ r. a ∷ r) (end-written e o x (omega arith))

pub nothing-wrote : (e o : List ℕ) → e ≡ [] → o ≡ wrote e o
nothing-wrote e o h = rw h refl

pub flag-low : (b : Bool) → cond b 1 0 ≤ 1
flag-low true = omega arith
flag-low false = omega arith

-- ---- what one part can take

module _ (distinct having inside kinds t : List ℕ) (head kept : ℕ) where
  pub sums_head : is_head_at t head ≡ true → rule_sums_in distinct having inside kinds t head kept ≡ sums_with distinct having inside kinds t head kept
  unfolding sums_with
  sums_head h = sym (ap (λ (b : Bool). cond b (rule_sums_in distinct having inside kinds t head kept) no_sums) h)

  pub sums_none : is_head_at t head ≡ false → no_sums ≡ sums_with distinct having inside kinds t head kept
  unfolding sums_with
  sums_none h = sym (ap (λ (b : Bool). cond b (rule_sums_in distinct having inside kinds t head kept) no_sums) h)

  pub sums_low : AtMost 28672 (sums_with distinct having inside kinds t head kept)
  unfolding sums_with
  sums_low = go (is_head_at t head)
    where
      go : (b : Bool) → AtMost 28672 (cond b (rule_sums_in distinct having inside kinds t head kept) no_sums)
      go true = sums_most distinct having inside kinds t head kept
      go false = (omega arith, omega arith, omega arith, omega arith)

-- the sums of two fit together: those so far, of no more parts than there may be, and those of one more
pub add_fits : (kept distinct having inside kinds t : List ℕ) (i : ℕ) {a b : Sums} → i < most_parts → a ≡ all_sums (sums_at kept distinct having inside kinds t) (up_to i) → b ≡ sums_at kept distinct having inside kinds t i
    → AtMost 2147483647 a × AtMost 2147483647 b
add_fits kept distinct having inside kinds t i {a} {b} l e f = (
  subst (AtMost 2147483647) (sym e) (lower (all_sums (sums_at kept distinct having inside kinds t) (up_to i)) (all_most 28672 (sums_at kept distinct having inside kinds t) (λ j. sums_low distinct having inside kinds t j (get_or kept j 0)) i)),
  subst (AtMost 2147483647) (sym f) (low (sums_at kept distinct having inside kinds t i) (sums_low distinct having inside kinds t i (get_or kept i 0))),
)
  where
    lower : (s : Sums) → AtMost (28672 * i) s → AtMost 2147483647 s
    lower s h = let u = h.0 in let r = h.1 in let o = h.2 in let m = h.3 in (omega (arith, l, u), omega (arith, l, r), omega (arith, l, o), omega (arith, l, m))

    low : (s : Sums) → AtMost 28672 s → AtMost 2147483647 s
    low s h = let u = h.0 in let r = h.1 in let o = h.2 in let m = h.3 in (omega (arith, u), omega (arith, r), omega (arith, o), omega (arith, m))

module _ (distinct having inside kinds permissions : List ℕ) (operations : ℕ) (starts t : List ℕ) (head kept : ℕ) where
  pub rule-head : is_head_at t head ≡ true → rule_bytes_in distinct having inside kinds permissions operations starts t head kept ≡ rule_with distinct having inside kinds permissions operations starts t head kept
  unfolding rule_with
  rule-head h = sym (ap (λ (b : Bool). cond b (rule_bytes_in distinct having inside kinds permissions operations starts t head kept) []) h)

  pub rule-none : is_head_at t head ≡ false → rule_with distinct having inside kinds permissions operations starts t head kept ≡ []
  unfolding rule_with
  rule-none h = ap (λ (b : Bool). cond b (rule_bytes_in distinct having inside kinds permissions operations starts t head kept) []) h

  pub rule-most : length (rule_with distinct having inside kinds permissions operations starts t head kept) ≤ 12288
  unfolding rule_with
  rule-most = go (is_head_at t head)
    where
      go : (b : Bool) → length (cond b (rule_bytes_in distinct having inside kinds permissions operations starts t head kept) []) ≤ 12288
      go true = bytes_most distinct having inside kinds permissions operations starts t head kept
      go false = omega arith

module _ (kept distinct having inside kinds permissions : List ℕ) (operations : ℕ) (starts t : List ℕ) where
  abbrev rule : ℕ → List ℕ
  rule = rule_at kept distinct having inside kinds permissions operations starts t

  abbrev made : ℕ → Sums
  made = sums_at kept distinct having inside kinds t

  -- ---- so many parts

  pub record Counted (bytes rules : ℕ) (sums : Sums) (i : ℕ) : Type 0 where
    pub within : i ≤ all_parts starts
    pub bytes-so : bytes ≡ length (each (rule_at kept distinct having inside kinds permissions operations starts t) (up_to i))
    pub bytes_low : bytes ≤ 12288 * i
    pub rules-so : rules ≡ length (keep (is_head_at t) (up_to i))
    pub rules-low : rules ≤ i
    pub sums_so : sums ≡ all_sums (sums_at kept distinct having inside kinds t) (up_to i)

  pub counted_none : (sums : Sums) → sums ≡ no_sums → Counted 0 0 sums 0
  unfolding all_sums
  counted_none sums e = record { within = omega arith; bytes-so = refl; bytes_low = omega arith; rules-so = refl; rules-low = omega arith; sums_so = e }

  kept_more : (p : ℕ → Bool) (i : ℕ) → length (keep p (up_to (i + 1))) ≡ length (keep p (up_to i)) + cond (p i) 1 0
  kept_more p i = ap length (keep-more p i) ∙ length-append (keep p (up_to i)) (only (p i) i) ∙ ap (λ (k : ℕ). length (keep p (up_to i)) + k) (one (p i))
    where
      one : (b : Bool) → length (only b i) ≡ cond b 1 0
      one true = refl
      one false = refl

  pub counted-more : (b r : ℕ) (s : Sums) (i db dr : ℕ) (ds s' : Sums) → Counted b r s i → i < all_parts starts → db ≡ length (rule i) → dr ≡ cond (is_head_at t i) 1 0 → ds ≡ made i → s' ≡ added s ds
      → Counted (b + db) (r + dr) s' (i + 1)
  counted-more b r s i db dr ds s' n l e f g k =
      let m = rule-most distinct having inside kinds permissions operations starts t i (get_or kept i 0) in
      let x = flag-low (is_head_at t i) in
      let q = n.bytes_low in
      let u = n.rules-low in
      record {
        within = omega arith;
        bytes-so = ap₂ ◌+◌ n.bytes-so e ∙ sym (ap length (each_more rule i) ∙ length-append (each rule (up_to i)) (rule i));
        bytes_low = omega arith;
        rules-so = ap₂ ◌+◌ n.rules-so f ∙ sym (kept_more (is_head_at t) i);
        rules-low = omega arith;
        sums_so = k ∙ ap₂ added n.sums_so g ∙ sym (all_more made i);
      }

  pub counted-end : (b r : ℕ) (s : Sums) (i : ℕ) → Counted b r s i → i ≡ all_parts starts
      → record { bytes = b + 1; rules = r; sums = s } ≡ measured_of kept distinct having inside kinds permissions operations starts t
  unfolding measured_of file_bytes
  counted-end b r s i n e =
      let long : b + 1 ≡ length (each rule (up_to (all_parts starts)) ++ (0x2F ∷ [])) = ap (λ (k : ℕ). k + 1) (n.bytes-so ∙ ap (λ (k : ℕ). length (each rule (up_to k))) e) ∙ sym (length-append (each rule (up_to (all_parts starts))) (0x2F ∷ [])) in
      let ruled : r ≡ length (keep (is_head_at t) (up_to (all_parts starts))) = n.rules-so ∙ ap (λ (k : ℕ). length (keep (is_head_at t) (up_to k))) e in
      let summed : s ≡ all_sums made (up_to (all_parts starts)) = n.sums_so ∙ ap (λ (k : ℕ). all_sums made (up_to k)) e in
      together long ruled summed
    where
      together : {b r x y : ℕ} {s z : Sums} → b ≡ x → r ≡ y → s ≡ z → ◌≡◌ {A = Measured} (record { bytes = b; rules = r; sums = s }) (record { bytes = x; rules = y; sums = z })
      together e f g = rw (e, f, g) refl

  -- ---- the end of writing

  -- behind all rules there is room for the last byte, and with it the file is written
  pub file-room : (o : List ℕ) → length (file_bytes kept distinct having inside kinds permissions operations starts t) ≤ length o → length (each (rule_at kept distinct having inside kinds permissions operations starts t) (up_to (all_parts starts))) < length o
  unfolding file_bytes
  file-room o h = let e = length-append (each rule (up_to (all_parts starts))) (0x2F ∷ []) in omega arith

  pub file-written : (o out : List ℕ) (at : ℕ) → length (file_bytes kept distinct having inside kinds permissions operations starts t) ≤ length o
      → at ≡ length (each (rule_at kept distinct having inside kinds permissions operations starts t) (up_to (all_parts starts))) → out ≡ wrote (each (rule_at kept distinct having inside kinds permissions operations starts t) (up_to (all_parts starts))) o
      → set out at 0x2F ≡ wrote (file_bytes kept distinct having inside kinds permissions operations starts t) o
  unfolding file_bytes
  file-written o out at h e f = ap₂ (λ (l : List ℕ) (k : ℕ). set l k 0x2F) f e ∙ end-written (each rule (up_to (all_parts starts))) o 0x2F h

  pub file-ended : (o out : List ℕ) (at i : ℕ) → Runs (rule_at kept distinct having inside kinds permissions operations starts t) (all_parts starts) o out at i → i ≡ all_parts starts → length (file_bytes kept distinct having inside kinds permissions operations starts t) ≤ length o
      → (at < length out) × (set out at 0x2F ≡ wrote (file_bytes kept distinct having inside kinds permissions operations starts t) o) × (length (set out at 0x2F) ≡ length o)
  file-ended o out at i w e h =
      let r = runs_end rule (all_parts starts) o out at i e w in
      let f = file-written o out at h r.0 r.1 in
      let k = file-room o h in
      let l = w.long in
      let x = r.0 in
      (omega (arith, k, l, x), f, ap length f ∙ length-wrote (file_bytes kept distinct having inside kinds permissions operations starts t) o h)

  -- the rules' bytes are not many
  pub file-most : length (file_bytes kept distinct having inside kinds permissions operations starts t) ≤ 12288 * all_parts starts + 1
  unfolding file_bytes
  file-most =
      let m = runs_most 12288 rule (all_parts starts) (λ i. rule-most distinct having inside kinds permissions operations starts t i (get_or kept i 0)) in
      omega (arith, m, length-append (each rule (up_to (all_parts starts))) (0x2F ∷ []))
