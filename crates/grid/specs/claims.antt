-- Statements of theorems, and what only they rest on.
pub mod Accepted
pub mod Claims
pub mod Setting
