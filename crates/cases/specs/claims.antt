-- Statements of theorems, and what only they rest on.
pub mod Cases
pub mod Table
pub mod Tally
pub mod Claims
