pub mod Cells
pub mod CellsLaws
pub mod Record
pub mod Places
pub mod PlacesLaws
pub mod RecordLaws
