-- The laws of binary64 in and out, one idea a file, in reading order.

-- ---- what a number is
-- a number has the value of every fraction that is equal to its own
pub mod Values
-- a value that the format holds is known by its sign and its size
pub mod Held
-- what a bit pattern stands for: sign, exponent and digits
pub mod Patterns
-- sizes grow with the pattern without its sign
pub mod Rows
-- a sign is changed without a rounding
pub mod Signs
-- ---- in
-- what is written turns on the value, not on the fraction that it is offered as
pub mod Fractions
-- from what a contract says of an input that is let through, or refused, to what follows
pub mod Decisions
-- what is written for the value of a bit pattern
pub mod Written
-- ---- out
-- the nearest whole number to a fraction, ties to even, and as the code gets it
pub mod Closest
-- 53 digits are cast and scaled by a power of two without loss
pub mod Scaling
-- what `round` keeps of a size: its 53 leading digits, rounded
pub mod Leading
-- a size as a fraction over 2^1023
pub mod Raised
-- what is taken out for what a word means
pub mod Taken
-- ---- what follows
-- up to width 57 the number out is exactly the value
pub mod Exactness
-- the distance of a value from a number, by their sizes
pub mod Gaps
-- the nearest number as a place in the row of patterns
pub mod Places
-- so `round` gives the nearest one, ties to even, and no other number is that
pub mod Nearest
-- the kit's comparison is the order of the whole numbers that two values were made of
pub mod Comparisons
-- numbers out keep the order of words
pub mod Order
-- the negated word is the negated number, and zero is positive
pub mod Negation
-- up to width 57 out and in again is the word
pub mod RoundTrip
-- NaN, the infinities, both zeros, and NaR
pub mod Specials
-- two outcomes that a contract allows are equal
pub mod OneOutcome
