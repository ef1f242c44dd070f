pub mod AssemblyLaws
pub mod MineLaws
