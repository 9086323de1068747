-- What only contracts of parts and proofs cite.
pub mod Trees
pub mod Keys
pub mod Planted
