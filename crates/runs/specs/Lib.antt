-- The definitions that the contracts cite.
pub mod Machine
pub mod Outcomes
