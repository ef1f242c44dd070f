pub mod RoleQuestionLaws
