pub mod OnePartLaws
