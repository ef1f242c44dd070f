pub mod Putting
pub mod StoreLaws
