pub mod Face
pub mod Join
pub mod Rim
pub mod claims
pub mod work
