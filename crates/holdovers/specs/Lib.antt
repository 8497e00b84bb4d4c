-- The definitions that the contracts cite.
pub mod Bases
pub mod Holdovers
pub mod Lemmas
