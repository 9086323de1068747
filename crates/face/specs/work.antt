-- What only contracts of parts and proofs cite.
pub mod Corners
pub mod Stand
pub mod Ends
