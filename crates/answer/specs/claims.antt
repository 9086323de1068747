-- Statements of theorems, and what only they rest on.
pub mod Faults
