-- The laws of words, one idea a file, in reading order. From Readings on they are for the crates that stand on this one; nothing here uses them.

-- sums of whole numbers with a sign, reduced to sums without one
pub mod Integers
-- the first twelve bits of a word: what Definition 2 gives at each of them, by computed tests
pub mod Heads
-- a word is such a head and a tail, which only goes on with the fraction
pub mod Cut
-- the size of a word with sign 0 at the top of 64 bits; sizes strictly increase with the word
pub mod Sizes
-- what Definition 2 says of a string, by that size; with sign 1 it is the complement of one with sign 0
pub mod Meaning
-- what a word of any width means, by where it lies: zero, above zero, NaR, below zero; zeros appended change nothing
pub mod Words
-- a word as a two's complement number, and its negation, by where it lies
pub mod Signed
-- how many fraction bits a word has of its own, by where it lies
pub mod Own
-- the order of words is the order of values, two words have two values, and negation negates
pub mod Values
-- the number of a string from its fields, as reading gives it
pub mod Numbers
-- a word and its string at the top of 64 bits, with zeros behind them
pub mod Top
-- one size in two units: a power of two moves between significand and exponent
pub mod Units
-- a word that is neither zero nor NaR is a number: sign, exponent and significand
pub mod Readings
-- a size has one exponent and one significand of a given length, so a reading is determined by what it means
pub mod Binades
-- a signed number as its sign and its size in 64 bits
pub mod Casts
