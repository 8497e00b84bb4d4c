-- The definitions that the contracts cite.
pub mod Banks
pub mod History
pub mod Hulls
pub mod Intervals
pub mod Lemmas
pub mod Meaning
pub mod References
