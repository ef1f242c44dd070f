pub mod AloneLaws
pub mod FilledLaws
pub mod HeadCountLaws
pub mod JoinLaws
pub mod PairLaws
pub mod ProgressLaws
pub mod ResolveLaws
pub mod RunLaws
