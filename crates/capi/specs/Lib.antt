pub mod Written
pub mod claims
pub mod work
