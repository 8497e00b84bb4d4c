-- The definitions that the contracts cite.
pub mod Bounds
pub mod Fuses
pub mod Lemmas
pub mod Sharing
