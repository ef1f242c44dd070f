pub mod JudgeChecksum
