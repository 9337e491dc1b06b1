-- What the contracts of this crate cite, and what its law of changes says.
pub mod Changes
pub mod Layout
pub mod Puts
pub mod Reads
pub mod Sums
pub mod Whole
pub mod Writes
