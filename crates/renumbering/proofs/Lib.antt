pub mod CommandLaws
pub mod CountLaws
pub mod NewNumbersLaws
pub mod NumberLaws
pub mod OperandLaws
pub mod SameRulesLaws
pub mod SettingLaws
