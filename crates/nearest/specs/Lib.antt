-- What the contracts of this crate cite.
pub mod Nearest
pub mod Offers
pub mod Sayings
pub mod Parts
