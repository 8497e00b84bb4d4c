-- The lemmas that the proofs share.
pub mod Listings
pub mod Ordered
