-- What the contracts of this crate cite.
pub mod Cuts
pub mod Orders
pub mod Reads
pub mod Takum
