pub mod ReadChecksum
