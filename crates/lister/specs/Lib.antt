-- What the lister prints for a run of blocks, how it counts them, what a read tells, which run follows it, and how the listing ends.
pub mod Runs
pub mod Counts
pub mod Told
pub mod Arrived
pub mod Endings
