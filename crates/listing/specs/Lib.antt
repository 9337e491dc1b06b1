-- What is printed for a block, and what the contracts of this crate cite.
pub mod Adds
pub mod Listing
pub mod Puts
pub mod Text
