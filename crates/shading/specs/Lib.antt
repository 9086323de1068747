pub mod Marks
pub mod Answer
pub mod Done
pub mod claims
pub mod examples
pub mod work
