pub mod ValueLineLaws
pub mod WritingLaws
