-- Statements of theorems, and what only they rest on.
pub mod Figures
pub mod Booking
pub mod Left
pub mod Claims
