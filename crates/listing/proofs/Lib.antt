pub mod Digits
pub mod Numbers
pub mod Meshes
pub mod Bundles
pub mod Computed
