-- What only contracts of parts and proofs cite.
pub mod Work
pub mod Held
pub mod Along
