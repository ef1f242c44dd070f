pub mod Others
pub mod KeptPlaces
pub mod Rows
pub mod RowLaws
pub mod FirstOtherLaws
