-- One more rule: what it adds to what the rules grant, and to the first rule that grants other than its parts.
-- Assumes nothing.
use Rattle.std.specs.Prelude.{ℕ, length, get_or, Bool, true, false, ◌||◌, not, ◌≡◌, refl}
use Rattle.std.proofs.Math.ListN.{get_or-append}
use Rattle.std.proofs.Common.{length-append, ◌∙◌}
use Rattle.std.proofs.Math.Seq.{get_or-append_seam}
use Rattle.std.proofs.Math.Bool.{cond}
use mathlib.Core.List.{List, [], ◌∷◌, ◌++◌}
use Rattle.std.proofs.Math.Option.{Option, none, some}
use Rattle.std.proofs.Math.Path.{ap, ap₂}
use Rattle.files.proofs.CallLaws.{first_ext}
use Rattle.files.specs.Calls.{first, rules_grant, parts_grant, first_stray_rule}
use Rattle.files.specs.RuleFile.{Lines, rule_in}
use Rattle.policy.specs.Roles.{Roles}
use Rattle.policy.specs.Rules.{Setting, grants, same_block}
use Rattle.sets.specs.ListLaws.{up_to-more, any_last}
use Rattle.sets.specs.Tests.{up_to}
use Rattle.sets.specs.TestLaws.{up_to-out}

-- the first of two finds
abbrev pub or_else : Option ℕ → Option ℕ → Option ℕ
or_else none b = b
or_else (some x) b = some x

-- a rule grants other than its parts
unfoldable pub strays : (P : Setting) → Roles → Lines → Bool
strays P R ls = not (same_block P (grants P (rule_in P ls)) (parts_grant P R ls))

first-end : (f : ℕ → Bool) (l : List ℕ) (x : ℕ) → first f (l ++ (x ∷ [])) ≡ or_else (first f l) (cond (f x) (some x) none)
first-end f [] x = refl
first-end f (y ∷ l) x = go (f y) (first-end f l x)
  where
    go : (b : Bool) → first f (l ++ (x ∷ [])) ≡ or_else (first f l) (cond (f x) (some x) none) → cond b (some y) (first f (l ++ (x ∷ []))) ≡ or_else (cond b (some y) (first f l)) (cond (f x) (some x) none)
    go true e = refl
    go false e = e

module _ (P : Setting) (R : Roles) (rules : List Lines) (ls : Lines) where
  pub stray_more : first_stray_rule P R (rules ++ (ls ∷ [])) ≡ or_else (first_stray_rule P R rules) (cond (strays P R ls) (some (length rules)) none)
  unfolding first_stray_rule strays
  stray_more =
      ap (λ (n : ℕ). first (λ i. strays P R (get_or (rules ++ (ls ∷ [])) i [])) (up_to n)) (length-append rules (ls ∷ []))
      ∙ ap (first (λ i. strays P R (get_or (rules ++ (ls ∷ [])) i []))) (up_to-more (length rules))
      ∙ first-end (λ i. strays P R (get_or (rules ++ (ls ∷ [])) i [])) (up_to (length rules)) (length rules)
      ∙ ap₂ or_else
      (first_ext (λ i. strays P R (get_or (rules ++ (ls ∷ [])) i [])) (λ i. strays P R (get_or rules i [])) (up_to (length rules)) (λ i m. ap (strays P R) (get_or-append rules (ls ∷ []) [] i (up_to-out (length rules) m))))
      (ap (λ t. cond (strays P R t) (some (length rules)) none) (get_or-append_seam rules ls [] []))

  pub grants-more : (u r o : ℕ) → rules_grant P (rules ++ (ls ∷ [])) u r o ≡ (rules_grant P rules u r o || grants P (rule_in P ls) u r o)
  unfolding rules_grant
  grants-more u r o = any_last (λ t. grants P (rule_in P t) u r o) rules ls
