-- Each verdict's number is that of its finding. Assumes nothing.
use Rattle.std.proofs.Common.{◌≡◌, ℕ, refl, sym, ap, ◌∙◌}
use Rattle.files.specs.Calls.{Verdict as Finding, verdict_number, differ, stray_rule, stray_part, sound}
use Rattle.rule_judge.specs.Judgement.{verdict_of}
use Rattle.rule_judge.specs.declared.Verdict.{Verdict}
use Rattle.rule_judge.specs.declared.Verdict.TheVariants.{Sound, Differ, StrayRule, StrayPart}
use Rattle.judge.proofs.verdict_number.Goals as goal

-- the number by the code's verdict
abbrev number : Verdict → ℕ
number Sound = 0
number (Differ u r o) = 1
number (StrayRule i) = 2
number (StrayPart p) = 3

same-number : (v : Finding) → number (verdict_of v) ≡ verdict_number v
same-number sound = refl
same-number (differ u r o) = refl
same-number (stray_rule i) = refl
same-number (stray_part p) = refl

told : (d : Verdict) (v : Finding) → d ≡ verdict_of v → number d ≡ verdict_number v
told d v e = ap number e ∙ same-number v

pub returns-in-Sound : goal.returns-in-Sound
returns-in-Sound c v e = told Sound v (sym c.in-Sound.is ∙ e)

pub returns-in-Differ : goal.returns-in-Differ
returns-in-Differ c v e = told (Differ _ _ _) v (sym c.in-Differ.is ∙ e)

pub returns-in-StrayRule : goal.returns-in-StrayRule
returns-in-StrayRule c v e = told (StrayRule _) v (sym c.in-StrayRule.is ∙ e)

pub returns-in-StrayPart : goal.returns-in-StrayPart
returns-in-StrayPart c v e = told (StrayPart _) v (sym c.in-StrayPart.is ∙ e)
