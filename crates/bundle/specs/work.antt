-- What only contracts of parts and proofs cite.
pub mod Record
pub mod Needed
pub mod Looked
pub mod Kinds
