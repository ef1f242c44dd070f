-- The judge's verdict as the code hands it back, and in 01's numbers.
-- Assumes nothing.
use Rattle.std.specs.Prelude.{ℕ, List, [], ◌∷◌}
use Rattle.files.specs.Calls.{Verdict as Judgement, differ, stray_rule, stray_part, sound}
use Rattle.rule_judge.specs.declared.Verdict.{Verdict}
use Rattle.rule_judge.specs.declared.Verdict.TheVariants.{Sound, Differ, StrayRule, StrayPart}

-- the definitions' verdict, as the code has it
abbrev pub verdict_of : Judgement → Verdict
verdict_of (differ u r o) = Differ u r o
verdict_of (stray_rule i) = StrayRule i
verdict_of (stray_part p) = StrayPart p
verdict_of sound = Sound

-- the verdict's number and its values
abbrev pub verdict_numbers : Verdict → List ℕ
verdict_numbers Sound = 0 ∷ []
verdict_numbers (Differ u r o) = 1 ∷ u ∷ r ∷ o ∷ []
verdict_numbers (StrayRule i) = 2 ∷ i ∷ []
verdict_numbers (StrayPart p) = 3 ∷ p ∷ []
