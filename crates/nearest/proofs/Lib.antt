-- The laws of the nearest word, one idea a file, in reading order.

-- ---- what the nearest word is
-- the nearest of an increasing row of sizes, ties to the even place: there is one, and only one
pub mod Nearest
-- the distance of two numbers with their signs, by their sizes
pub mod Gaps
-- the nonzero words of one sign are such a row
pub mod Places
-- ---- how one function finds it
-- exponents raised by 255, so that none is negative
pub mod Exponents
-- an exact size, with a rest below its last unit, against a half and against a midpoint
pub mod Halves
-- the strings of one binade: their sizes are the significands one after the other
pub mod Strings
-- how the strings of a characteristic begin, by computed tests
pub mod Starts
-- the first bits of a size are the last string at or below it, and cut to n bits the last word
pub mod Floors
-- where the cut falls before the fraction, a word and the next are powers of two, at most 64 binades apart
pub mod Coarse
-- on which side of the midpoint of its two neighbours a size lies
pub mod Sides
-- so it gives the nearest positive word, past either end and inside
pub mod Hub
-- and a whole class of sizes, of which none is empty, has one
pub mod Classes
-- which way it lies from the size: one of four, and strings tell it
pub mod Sayings
-- both with the sign
pub mod Signs
-- two outcomes that the contract allows are equal
pub mod OneOutcome
