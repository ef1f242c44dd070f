pub mod Operands
pub mod OperandLaws
