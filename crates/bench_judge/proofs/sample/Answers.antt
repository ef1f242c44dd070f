-- The weight of what the judge says, and the turn. Assumes nothing.
use Rattle.std.proofs.Common.{◌≡◌, refl, ap, ◌∙◌}
use Rattle.files.specs.Answer.{Answer, told, refused, accepted, map_answer}
use Rattle.files.specs.Calls.{Verdict, verdict_told}
use Rattle.rule_judge.specs.Judgement.{verdict_of, verdict_numbers}
use Rattle.rule_judge.specs.JudgementLaws.{numbers-told}
use Rattle.bench_judge.proofs.sample.Goals as goal

told-so : (a : Answer Verdict) → told verdict_numbers (map_answer verdict_of a) ≡ told verdict_told a
told-so (refused e) = refl
told-so (accepted v) = rw (numbers-told v) refl

pub returns : goal.returns
returns c = rw (c.weight.ensures, c.judge.ensures, told-so) refl
