pub mod RoleRunLaws
