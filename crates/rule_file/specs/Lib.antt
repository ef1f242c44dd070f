pub mod LegalLaws
pub mod OpenedLaws
