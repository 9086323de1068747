-- Examples, proved by computation.
pub mod Examples
