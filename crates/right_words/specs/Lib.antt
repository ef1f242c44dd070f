pub mod Rights
pub mod RightLaws
