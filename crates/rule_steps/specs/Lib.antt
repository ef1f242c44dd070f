pub mod Shows
pub mod ShowsLaws
pub mod StrayLaws
pub mod GrantedLaws
