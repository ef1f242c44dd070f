pub mod DenialChecksum
