pub mod Standing
pub mod EveryList
pub mod StandingLaws
pub mod EveryListLaws
