pub mod LegalLaws
