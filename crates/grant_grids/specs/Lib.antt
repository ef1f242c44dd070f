pub mod Grid
pub mod Links
pub mod Updates
