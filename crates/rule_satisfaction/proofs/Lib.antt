pub mod HalvesLaws
pub mod SatisfactionLaws
