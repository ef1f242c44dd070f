pub mod LoadRunLaws
