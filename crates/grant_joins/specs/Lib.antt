pub mod Tables
pub mod LinkTurnLaws
