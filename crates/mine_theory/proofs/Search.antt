pub mod FrontierLaws
pub mod WithinLaws
