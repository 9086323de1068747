pub mod Answer
pub mod Refusal
pub mod Rows
pub mod claims
pub mod work
