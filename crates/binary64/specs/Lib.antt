-- What the contracts of this crate cite, and what "nearest" means of a number out.
pub mod Nearest
pub mod Takes
pub mod Writes
pub mod Sayings
