-- Statements of theorems, and what only they rest on.
pub mod Plain
pub mod Polygon
pub mod Piece
pub mod Complex
pub mod Claims
