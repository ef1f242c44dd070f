pub mod PairLevels
pub mod PairLevelLaws
