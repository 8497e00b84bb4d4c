-- What the laws of the impls rest on: lemmas, proved here since a law cites only what stands in specs.
pub mod Banks
pub mod Following
pub mod Hulls
pub mod References
pub mod Spans
