-- What only contracts of parts and proofs cite.
pub mod Five
pub mod Table
pub mod Working
pub mod Spots
pub mod Gains
pub mod Family
pub mod Shown
pub mod Tables
