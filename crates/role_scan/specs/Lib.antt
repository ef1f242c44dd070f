pub mod Asked
pub mod ShiftLaws
