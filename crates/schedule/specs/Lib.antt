-- The definitions that the contracts cite.
pub mod Encoding
pub mod Reading
pub mod Stops
