pub mod Sizes
pub mod Order
pub mod Least
pub mod Faults
pub mod Distances
pub mod Calls
pub mod Claims
pub mod Examples
