-- The laws of widths and verdicts, one idea a file, in reading order. Answers and Consecutive are for the crates that stand on
-- this one; nothing here uses them.

-- powers of two by the sum of their exponents
pub mod Powers
-- when the tests of a width and of a word refuse, and what a contract says then
pub mod Verdicts
-- what is known of a width that was tested
pub mod Goods
-- when the test of the room refuses
pub mod Rooms
-- the exponent of the exact-count limit, from one logarithm
pub mod Limits
-- an answer is a word or a refusal, and not both
pub mod Answers
-- Proposition 5 of document 004 and the rule of paper 01 say the same
pub mod Consecutive
