pub mod InsideValues
pub mod InsideFilling
pub mod InsideLaws
pub mod DistinctListedLaws
pub mod DistinctLaws
