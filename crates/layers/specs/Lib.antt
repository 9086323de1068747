pub mod Runs
pub mod Cuts
pub mod Answer
pub mod Joined
pub mod Done
pub mod claims
pub mod examples
pub mod work
