pub mod claims
pub mod work
