pub mod AnswerWords
pub mod AnswerWordLaws
