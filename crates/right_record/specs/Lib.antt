pub mod Reassigned
pub mod ReassignedLaws
