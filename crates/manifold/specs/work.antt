-- What only contracts of parts and proofs cite.
pub mod Triangle
pub mod Plain
pub mod Polygon
pub mod Faces
