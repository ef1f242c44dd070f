-- The laws of the comparison of a group with a rule: how the search for the first difference goes on.
-- Assumes nothing.
use Prim.Native.Nat.{ℕ, ◌+◌, ◌<◌}
use Rattle.std.specs.Prelude.{Bool, true, ◌&&◌, Some, None, ◌≡◌}
use Rattle.std.proofs.Math.Bool.{false, not}
use mathlib.Core.List.{List, map}
use Rattle.std.proofs.Math.Path.{refl, sym, ap}
use Rattle.std.proofs.Common.{ap₂, ◌∙◌}
use Rattle.files.proofs.CallLaws.{first-none}
use Rattle.files.specs.Calls.{first}
use Rattle.grant_grids.specs.Grid.{triple_list, differ_at, difference_of}
use Rattle.grant_grids.proofs.GridLaws.{UsersPassed, ResourcesPassed, OperationsPassed, user-passed, found}
use Rattle.mine_corners.specs.Pairing.{table_spans}
use Rattle.policy.specs.Rules.{Block}
use Rattle.grant_links.specs.Linked.{row_of}
use Rattle.sets.specs.Sets.{bit}
use Rattle.sets.specs.Tests.{iff, ◌is_in◌, each, up_to}
use Rattle.sets.specs.TestLaws.{iff_in, each-out, map-out}
use Rattle.mine_theory.specs.Words.Words.{Words}
use Rattle.mine_rows.specs.Others.{rule_over, first_other}

module _ (links : List ℕ) (W : Words) (atoms who what : ℕ) where
  -- what the rule grants, from the table of links
  abbrev pub ruled : Block
  ruled = table_spans links (rule_over W atoms who what)

  rule-row : (u r o : ℕ) {c : ℕ} → c ≡ row_of links atoms who what u → (bit W.ops o && bit c r) ≡ ruled u r o
  unfolding table_spans rule_over
  rule-row u r o e = ap (λ (m : ℕ). bit W.ops o && bit m r) e

  group-row : (u r o : ℕ) {a : ℕ} → a ≡ row_of links W.atoms W.users W.resources u → (bit W.ops o && bit a r) ≡ table_spans links W u r o
  unfolding table_spans
  group-row u r o e = ap (λ (m : ℕ). bit W.ops o && bit m r) e

  -- the test of a triple, from the user's rows
  pub differs_at : (u r o : ℕ) {d : Bool} {c a : ℕ} → c ≡ row_of links atoms who what u → a ≡ row_of links W.atoms W.users W.resources u
      → d ≡ not (iff (bit W.ops o && bit c r) (bit W.ops o && bit a r)) → d ≡ not (iff (ruled u r o) (table_spans links W u r o))
  differs_at u r o p q e = e ∙ ap₂ (λ (x y : Bool). not (iff x y)) (rule-row u r o p) (group-row u r o q)

  -- a user whose rows are the same is passed by
  pub user_agrees : (rs os n : ℕ) {c a : ℕ} → c ≡ row_of links atoms who what n → a ≡ row_of links W.atoms W.users W.resources n → UsersPassed ruled (table_spans links W) rs os n → c ≡ a
      → UsersPassed ruled (table_spans links W) rs os (n + 1)
  unfolding differ_at
  user_agrees rs os n p q h e =
      user-passed ruled (table_spans links W) rs os n rs h (first-none (differ_at ruled (table_spans links W)) (each (λ r. map (λ o. (n, r, o)) (up_to os)) (up_to rs)) alike) refl
    where
      alike : (t : ℕ × ℕ × ℕ) → t is_in each (λ r. map (λ o. (n, r, o)) (up_to os)) (up_to rs) → differ_at ruled (table_spans links W) t ≡ false
      alike t m =
          let k = each-out (λ r. map (λ o. (n, r, o)) (up_to os)) (up_to rs) m in
          let i = map-out (λ o. (n, k.0, o)) (up_to os) k.2 in
          ap (differ_at ruled (table_spans links W)) i.2
          ∙ ap not (iff_in (ruled n k.0 i.0) (table_spans links W n k.0 i.0) (sym (rule-row n k.0 i.0 (sym e ∙ p)) ∙ group-row n k.0 i.0 q))

  -- the search is left at a difference
  pub other_at : (us rs os u r o : ℕ) {d : Bool} → u < us → r < rs → o < os → UsersPassed ruled (table_spans links W) rs os u → ResourcesPassed ruled (table_spans links W) os u r → OperationsPassed ruled (table_spans links W) u r o
      → d ≡ not (iff (ruled u r o) (table_spans links W u r o)) → d ≡ true → Some (u, r, o) ≡ difference_of (first_other links W atoms who what us rs os)
  unfolding first_other difference_of
  other_at us rs os u r o lu lr lo hu hr ho q e = sym (ap difference_of (found ruled (table_spans links W) us rs os u r o lu lr lo hu hr ho (sym q ∙ e)))

  -- it ends without one
  pub other_none : (us rs os u : ℕ) → UsersPassed ruled (table_spans links W) rs os u → u ≡ us → None ≡ difference_of (first_other links W atoms who what us rs os)
  unfolding first_other difference_of
  other_none us rs os u h e = sym (ap difference_of (ap (λ (x : ℕ). first (differ_at ruled (table_spans links W)) (triple_list x rs os)) (sym e) ∙ h))
