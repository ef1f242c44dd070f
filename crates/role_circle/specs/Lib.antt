pub mod CircledNumbers
pub mod CircledLaws
