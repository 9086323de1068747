-- What only contracts of parts and proofs cite.
pub mod Distance
