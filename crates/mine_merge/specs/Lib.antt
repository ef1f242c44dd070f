pub mod Steps
pub mod Traced
pub mod Progress
