pub mod Figures
pub mod Booking
pub mod Answer
pub mod claims
pub mod examples
pub mod work
