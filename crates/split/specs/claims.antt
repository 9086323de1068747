-- Statements of theorems, and what only they rest on.
pub mod Counted
pub mod Claims
pub mod Family
pub mod Five
pub mod Owned
