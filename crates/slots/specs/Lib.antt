pub mod Limits
pub mod Slots
pub mod claims
pub mod work
