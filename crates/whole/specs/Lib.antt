-- What the contracts of this crate cite, and what is stated of the exact-count limit and of the length of words.
pub mod Limits
pub mod Wholes
pub mod Sayings
pub mod Shortest
pub mod Lengths
pub mod Parts
