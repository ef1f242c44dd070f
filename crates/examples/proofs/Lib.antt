pub mod ExamplesLaws
