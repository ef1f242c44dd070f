-- The numbers of the code's verdict are those of the definitions'.
-- Assumes nothing.
use Rattle.std.specs.Prelude.{◌≡◌, refl}
use Rattle.files.specs.Calls.{Verdict, differ, stray_rule, stray_part, sound, verdict_told}
use Rattle.rule_judge.specs.Judgement.{verdict_of, verdict_numbers}

pub numbers-told : (v : Verdict) → verdict_numbers (verdict_of v) ≡ verdict_told v
numbers-told (differ u r o) = refl
numbers-told (stray_rule i) = refl
numbers-told (stray_part p) = refl
numbers-told sound = refl
