-- What only contracts of parts and proofs cite.
pub mod Fans
pub mod Sums
pub mod Totals
