pub mod CostSums
pub mod CostSumLaws
