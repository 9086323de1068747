-- What only contracts of parts and proofs cite.
pub mod Text
pub mod Listing
