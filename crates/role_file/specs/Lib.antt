pub mod Reading
pub mod ReadLaws
pub mod RoleStateLaws
pub mod SettleLaws
pub mod SizedLaws
