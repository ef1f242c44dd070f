pub mod Filling
pub mod Entering
pub mod EnteringLaws
