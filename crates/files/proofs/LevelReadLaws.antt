-- Every rule of a rule file that is accepted tells its level, once.
-- Assumes nothing.
use Rattle.std.specs.Prelude.{ℕ, suc, length, ◌≡◌}
use Rattle.std.proofs.Math.Bool.{true, false}
use mathlib.Core.List.Memᴰ
use mathlib.Core.List.{List, [], ◌∷◌, ◌++◌}
use Rattle.std.proofs.Math.Logic.{⊎_elim, inl}
use Rattle.std.proofs.Math.Option.{Option, none, some}
use Rattle.std.proofs.Math.Path.{refl, subst}
use Rattle.std.proofs.Common.{sym}
use Rattle.files.specs.Answer.{Answer, unless, and_then, rules_order, rules_operand, wrong_level, refused, accepted}
use Rattle.files.specs.Beside.{Beside}
use Rattle.files.specs.Bytes.{read}
use Rattle.files.proofs.BytesLaws.{Carries, unless_carries, then_carries, any-carried, carried, read_carries}
use Rattle.files.proofs.LevelLineLaws.{Tells, tells_more, tells-whole}
use Rattle.files.specs.RuleFile.{RuleCommand, Lines, levels_in, rule_in, Reading, whole, finished, follows, legal, levelled, add_line, obey_rule, opened, rule_format, read_body, read_rules, reshapes, opens, value, operations, link, part, level, ends}
use Rattle.policy.proofs.MergeLaws.{Every}
use Rattle.policy.specs.Rules.{rule_level}
use Rattle.sets.specs.Tests.{◌is_in◌}
use Rattle.sets.specs.TestLaws.{only_out}

module _ (B : Beside) where
  -- a rule tells its level, once
  abbrev pub Stated : Lines → Type 0
  Stated ls = levels_in ls ≡ rule_level B.setting (rule_in B.setting ls) ∷ []

  abbrev OpenTells : Option Lines → Type 0
  OpenTells none = Unit {0}
  OpenTells (some ls) = Tells B ls

  -- the complete rules do, and the open one so far
  record Telling (s : Reading) : Type 0 where
    done : Every Stated s.complete
    begun : OpenTells s.current

  closed-telling : (s : Reading) → Telling s → Carries (Every Stated) (finished s)
  unfolding finished
  closed-telling s t = go s.current t.begun
    where
      go : (o : Option Lines) → OpenTells o → Carries (Every Stated) (elim o [ none ↦ accepted s.complete | some ls ↦ unless (whole ls) rules_order (accepted (s.complete ++ (ls ∷ []))) ])
      go none k = t.done
      go (some ls) k = unless_carries (Every Stated) (whole ls) rules_order (accepted (s.complete ++ (ls ∷ []))) λ w.
          λ ks m. ⊎_elim (λ i. t.done ks i) (λ i. subst Stated (sym (only_out true i).1) (tells-whole B ls w k)) (Memᴰ.append_cases s.complete m)

  abbrev with_line : Reading → Lines → RuleCommand → Reading
  with_line s ls c = record { complete = s.complete; current = some (ls ++ (c ∷ [])) }

  added-telling : (s : Reading) (c : RuleCommand) → Telling s → Carries Telling (add_line B s c)
  unfolding add_line
  added-telling s c t = go s.current t.begun
    where
      go : (o : Option Lines) → OpenTells o → Carries Telling (elim o [ none ↦ refused rules_order | some ls ↦ unless (follows ls c) rules_order (unless (legal B c) rules_operand (unless (levelled B ls c) wrong_level (accepted (with_line s ls c)))) ])
      go none k = tt
      go (some ls) k =
          unless_carries Telling (follows ls c) rules_order (unless (legal B c) rules_operand (unless (levelled B ls c) wrong_level (accepted (with_line s ls c)))) λ f.
          unless_carries Telling (legal B c) rules_operand (unless (levelled B ls c) wrong_level (accepted (with_line s ls c))) λ l.
          unless_carries Telling (levelled B ls c) wrong_level (accepted (with_line s ls c)) λ v. record { done = t.done; begun = tells_more B ls c f v k }

  obeyed-telling : (s : Reading) (c : RuleCommand) → Telling s → Carries Telling (obey_rule B s c)
  unfolding obey_rule
  obeyed-telling s reshapes t = tt
  obeyed-telling s opens t =
      then_carries (Every Stated) Telling (finished s) (λ done. accepted (record { complete = done; current = some [] })) (closed-telling s t) (λ done d. record { done = d; begun = inl refl })
  obeyed-telling s (value w set a v) t = added-telling s (value w set a v) t
  obeyed-telling s (operations m) t = added-telling s (operations m) t
  obeyed-telling s (link a b) t = added-telling s (link a b) t
  obeyed-telling s (part k m) t = added-telling s (part k m) t
  obeyed-telling s (level l) t = added-telling s (level l) t
  obeyed-telling s ends t =
      then_carries (Every Stated) Telling (finished s) (λ done. accepted (record { complete = done; current = none })) (closed-telling s t) (λ done d. record { done = d; begun = tt })

  body_stated : (W : ℕ) (bytes : List ℕ) → Carries (Every Stated) (read_body W B bytes)
  unfolding read_body rule_format
  body_stated W bytes =
      then_carries Telling (Every Stated) (read (rule_format W B) (record { complete = []; current = none }) bytes) (λ s. accepted s.complete)
      (read_carries (rule_format W B) Telling obeyed-telling (suc (length bytes)) false (record { complete = []; current = none }) bytes (record { done = λ ls m. absurd (Memᴰ.not-nil m); begun = tt }))
      (λ s t. t.done)

  -- THE LAW
  pub rules-stated : (W : ℕ) (bytes : List ℕ) (rules : List Lines) → read_rules W B bytes ≡ accepted rules → Every Stated rules
  unfolding read_rules
  rules-stated W bytes rules e =
      carried (Every Stated) (and_then (opened W B.shape bytes) (read_body W B))
      (then_carries (λ rest. Unit {0}) (Every Stated) (opened W B.shape bytes) (read_body W B) (any-carried (opened W B.shape bytes)) (λ rest k. body_stated W rest))
      e
