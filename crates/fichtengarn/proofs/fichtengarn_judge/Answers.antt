-- Assumes nothing.
use Rattle.fichtengarn.specs.NumberLaws.{made-told, handed-on}
use Rattle.files.specs.Calls.{judge, verdict_told}
use Rattle.rule_judge.specs.Judgement.{verdict_of, verdict_numbers}
use Rattle.rule_judge.specs.JudgementLaws.{numbers-told}
use Rattle.fichtengarn.proofs.fichtengarn_judge.Goals as goal

pub returns : goal.returns
returns c =
    let a = c.args in
    handed-on (made-told verdict_of verdict_numbers verdict_told numbers-told _ (judge 2 a.file.now a.rules.now) c.judge.ensures) a.verdict.now _ _ c.store.ensures
