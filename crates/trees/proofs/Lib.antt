pub mod Trees
pub mod Planted
