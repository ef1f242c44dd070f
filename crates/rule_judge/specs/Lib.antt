pub mod Judgement
pub mod JudgementLaws
