-- What the contracts of this crate cite.
pub mod Columns
pub mod Counts
pub mod Trials
