-- What only contracts of parts and proofs cite.
pub mod Stored
pub mod Tables
pub mod Search
