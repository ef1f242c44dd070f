pub mod RuleQuestionLaws
