pub mod Admit
pub mod AdmitLaws
pub mod RoleTableLaws
