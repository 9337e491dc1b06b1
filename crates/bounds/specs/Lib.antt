-- What the contracts of this crate cite.
pub mod Refusals
pub mod Sayings
pub mod Widths
