-- Examples, proved by computation.
pub mod Examples
pub mod NestExamples
pub mod SplitExamples
