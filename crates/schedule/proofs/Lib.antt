-- The lemmas that the proofs share.
pub mod Turns
pub mod Unique
pub mod Widths
