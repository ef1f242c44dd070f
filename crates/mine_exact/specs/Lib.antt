pub mod PairingLaws
pub mod ExactLaws
pub mod LookedLaws
