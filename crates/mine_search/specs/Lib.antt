pub mod PartnerSearch
pub mod SearchMetLaws
pub mod PartnerSearchLaws
