pub mod Distance
pub mod Answer
pub mod claims
pub mod examples
pub mod work
