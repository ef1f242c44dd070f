pub mod GroupRoles
pub mod GroupRoleLaws
pub mod RoleVisitLaws
