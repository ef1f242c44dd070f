pub mod Values
pub mod ValueLaws
pub mod ValueListLaws
