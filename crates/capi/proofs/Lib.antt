pub mod Answers
pub mod Body
pub mod Putting
pub mod Claims
