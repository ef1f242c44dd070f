-- A policy's two sides, rules, and what a rule grants.
-- Assumes nothing.
use Rattle.std.specs.Prelude.{ℕ, ◌^◌, ◌<◌, eqb, ltb, Bool, true, false, ◌&&◌, ◌≡◌, refl}
use Rattle.std.proofs.Common.{ltb-false, sym, ap, ◌∙◌}
use Rattle.policy.specs.Rules.{Which, Setting, Cond, Rule, Block, holds, grants, Same, same_block, user, resource, form_of, linked}
use Rattle.policy.proofs.SideLaws.{Ordered}
use Rattle.sets.specs.MaskLaws.{bit-out}
use Rattle.sets.specs.Sets.{bit, subset}
use Rattle.sets.specs.Tests.{Is, iff, ◌is_in◌, all, up_to}
use Rattle.sets.specs.TestLaws.{and_in, and_l, and_r, iff_in, iff-out, all-out, all_in, up_to_in, up_to-out, test}

-- what the theory asks of both sides
abbrev pub Lawful : Setting → Type 0
Lawful P = (w : Which) → Ordered (P.side w)

module _ (P : Setting) where
  pub grants_in : (ρ : Rule) (u r o : ℕ) → Is (bit ρ.ops o) → ((c : Cond) → c is_in ρ.conds → Is (holds P c u r)) → Is (grants P ρ u r o)
  unfolding grants
  grants_in ρ u r o p q = and_in p (all_in (λ c. holds P c u r) ρ.conds q)

  pub grants-op : (ρ : Rule) (u r o : ℕ) → Is (grants P ρ u r o) → Is (bit ρ.ops o)
  unfolding grants
  grants-op ρ u r o h = and_l (bit ρ.ops o) _ h

  pub grants-cond : (ρ : Rule) (u r o : ℕ) → Is (grants P ρ u r o) → {c : Cond} → c is_in ρ.conds → Is (holds P c u r)
  unfolding grants
  grants-cond ρ u r o h m = all-out (λ c. holds P c u r) (and_r (bit ρ.ops o) _ h) m

  pub same_in : (A B : Block) → Same P A B → Is (same_block P A B)
  unfolding same_block
  same_in A B h =
      all_in _ _ λ u mu. all_in _ _ λ r mr. all_in _ _ λ o mo.
      iff_in (A u r o) (B u r o) (h u r o (record { user = up_to-out _ mu; resource = up_to-out _ mr; op = up_to-out _ mo }))

  pub same_out : (A B : Block) → Is (same_block P A B) → Same P A B
  unfolding same_block
  same_out A B h u r o t =
      iff-out (A u r o) (B u r o)
      (all-out (λ o. iff (A u r o) (B u r o)) (all-out (λ r. all (λ o. iff (A u r o) (B u r o)) (up_to P.slots)) (all-out (λ u. all (λ r. all (λ o. iff (A u r o) (B u r o)) (up_to P.slots)) (up_to (P.side resource).count)) h (up_to_in t.user)) (up_to_in t.resource)) (up_to_in t.op))

-- ---- one pair of values, by the kinds of their attributes

module _ (p q : Bool) (x y : ℕ) where
  pub set_in_set : {d : Bool} → p ≡ true → q ≡ true → d ≡ subset y x → d ≡ linked (form_of p q) x y
  set_in_set e f h = rw (e, f) h

  -- "a value above 63 never is contained"
  pub single_in_set : {d : Bool} → p ≡ true → q ≡ false → x < 2 ^ 64 → d ≡ bit x y → d ≡ linked (form_of p q) x y
  single_in_set e f l h = rw (e, f) (h ∙ small)
    where
      small : bit x y ≡ (ltb y 64 && bit x y)
      small =
          test (ltb y 64)
          (λ t. sym (ap (λ (b : Bool). b && bit x y) t))
          (λ t. bit-out 64 x y l (ltb-false y 64 t) ∙ sym (ap (λ (b : Bool). b && bit x y) t))

  pub no_form : p ≡ false → q ≡ true → false ≡ linked (form_of p q) x y
  no_form e f = rw (e, f) refl

  pub single_is_single : {d : Bool} → p ≡ false → q ≡ false → d ≡ eqb x y → d ≡ linked (form_of p q) x y
  single_is_single e f h = rw (e, f) h
