-- Statements of theorems, and what only they rest on.
pub mod Table
pub mod Half
pub mod Nodes
pub mod Claims
pub mod Polygons
pub mod TriangleClaims
pub mod Renaming
pub mod Nests
pub mod Middles
