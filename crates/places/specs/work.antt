-- What only contracts of parts and proofs cite.
pub mod Work
pub mod Tables
