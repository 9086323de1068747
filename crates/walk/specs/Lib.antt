pub mod Darts
pub mod Step
pub mod Walk
pub mod claims
pub mod work
