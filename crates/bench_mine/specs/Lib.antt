pub mod MineChecksum
