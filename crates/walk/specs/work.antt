-- What only contracts of parts and proofs cite.
pub mod Walk
pub mod Marks
