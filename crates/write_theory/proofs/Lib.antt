pub mod ListingLaws
pub mod SectionLaws
pub mod WriterLaws
