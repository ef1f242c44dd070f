pub mod Taking
pub mod TakenLaws
