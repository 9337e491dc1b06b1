-- What is promised, as statements that a reader can hold against the letter and papers 01 and 02, in reading order.

-- the letter's three demands, each as one statement of those below
pub mod Letter
-- demand 1: the table of refusals
pub mod Refusals
-- reading, order and negation, and what belongs to a width
pub mod Demands
-- what paper 01 says of every word
pub mod Words
-- how fine a reading is
pub mod Fineness
-- writing and moves
pub mod Writing
-- whatever is written through the hub
pub mod Hub
-- whole numbers and binary64
pub mod Numbers
-- whole numbers by nearest
pub mod Wholes
-- the shortest word for a count
pub mod Shortest
-- the nearest binary64
pub mod Nearest
-- which way it went
pub mod Sayings
-- laws of moving
pub mod Moving
-- columns and blocks
pub mod Slices
-- written blocks
pub mod Sheets
-- no more blocks of width 8, and the old ones
pub mod OldBlocks
-- what is printed of the old ones
pub mod OldLines
-- the P figures
pub mod Figures
-- the exported calls, by the fields of their structs
pub mod Face
