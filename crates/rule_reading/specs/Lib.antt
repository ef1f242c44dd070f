pub mod BothFiles
pub mod Turns
