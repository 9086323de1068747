-- Statements of theorems, and what only they rest on.
pub mod Renaming
pub mod Claims
pub mod Words
pub mod Tables
