pub mod Triangle
pub mod Ring
pub mod Shape
pub mod claims
pub mod work
