pub mod DenialsLaws
