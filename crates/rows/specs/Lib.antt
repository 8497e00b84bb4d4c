-- The definitions that the contracts cite.
pub mod Details
pub mod Exactly
pub mod Faults
pub mod Lent
pub mod Limits
pub mod Refusals
pub mod Rows
