-- What only contracts of parts and proofs cite.
pub mod Tables
pub mod Shared
pub mod Numbered
pub mod Walks
pub mod Seen
pub mod Runs
pub mod Work
pub mod Held
pub mod Lent
