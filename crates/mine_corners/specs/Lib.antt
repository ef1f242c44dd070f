pub mod Pairing
pub mod FitLaws
pub mod MayJoinLaws
