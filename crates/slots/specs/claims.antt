-- Statements of theorems, and what only they rest on.
pub mod Slots
pub mod Claims
