pub mod FileTable
pub mod MeasureLaws
