-- What the contracts of this crate cite.
pub mod Writes
pub mod Sayings
