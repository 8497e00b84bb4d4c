-- What the laws of the impls rest on: lemmas, proved here since a law cites only what stands in specs.
pub mod Asked
pub mod Fuses
pub mod Meaning
pub mod Outermost
pub mod Readings
