-- The laws of columns, one idea a file, in reading order. From Positions on they are for the reader of the contract; no function's proof here uses
-- them.

-- a word that is tried is let through exactly where it is moved to some word
pub mod Trials
-- counting the positions that have a property
pub mod Counts
-- a walk one word further: what has been tried, and what has been written
pub mod Walks
-- what a refusal tells: nothing was written
pub mod Outcomes
-- what the contract says at each position
pub mod Positions
-- demand 3 at each position: a strict column keeps every value, and moved back it is the first column
pub mod Strict
-- two outcomes that the contract allows are equal, the results too
pub mod OneOutcome
