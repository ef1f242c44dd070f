pub mod RelationLaws
pub mod RankLaws
pub mod LinkTableLaws
