-- The laws of writing and moving, one idea a file, in reading order.

-- what a word's size tells, once it was read
pub mod Told
-- what is written for the size of what a word means is what is written for its meaning
pub mod Meanings
-- a word is moved to the word with its value where there is one; a strict move gives no other
pub mod Moves
-- two outcomes that a contract allows are equal
pub mod OneOutcome
-- a move is said to be exact exactly where its word means the same
pub mod Sayings
