pub mod GridLaws
pub mod LinkLaws
pub mod UpdateLaws
