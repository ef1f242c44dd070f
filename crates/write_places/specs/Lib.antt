pub mod KeptAtomLaws
