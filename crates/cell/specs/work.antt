-- What only contracts of parts and proofs cite.
pub mod Limits
pub mod Route
pub mod Half
pub mod Dart
pub mod Table
pub mod Tables
pub mod Scratch
pub mod Walked
pub mod Round
pub mod Traced
pub mod Nth
pub mod Fits
pub mod Centres
