-- What only contracts of parts and proofs cite.
pub mod Rows
pub mod Cells
pub mod Laid
pub mod Loops
