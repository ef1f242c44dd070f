pub mod Raw
pub mod RawLaws
pub mod CommandOrderLaws
