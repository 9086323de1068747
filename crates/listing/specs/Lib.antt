pub mod Text
pub mod Listing
pub mod examples
pub mod work
