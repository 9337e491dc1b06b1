-- The laws of whole numbers, one idea a file, in reading order.

-- ---- taking out
-- a value has one nearest whole number, which is at most a half off
pub mod NearestWholes
-- what is answered once the nearest whole number is known: the range, and then the rule
pub mod Answers
-- a whole number is the nearest to its own value
pub mod WholeValues
-- how much a size counts in 2^-307
pub mod Amounts
-- what is taken out of a size, by where it lies: below a half, up to 2^63, or past it
pub mod Takings
-- ---- what the contracts say of it
-- two outcomes that a contract allows are equal
pub mod OneOutcome
-- NAR, OVER and INEXACT are given exactly when the table of paper 01 says
pub mod Refused
-- what is known of a word out of which a whole number was taken
pub mod TakenOut
-- in and out again, out and in again
pub mod InAndOut
-- taking out keeps the order of words
pub mod Order
-- the negated word is taken out as the negated number
pub mod Negation
-- a sum is off by at most what its parts are off
pub mod Sums
-- ---- the exact-count limit
-- the strings of the whole numbers from 2^h to 2^(h + 1) begin alike and are evenly spaced
pub mod LimitBinades
-- the string of a whole number: the beginning, its bits without the leading one, and zeros
pub mod LimitStrings
-- it needs all of these but the zeros that they end in
pub mod LimitBeyond
-- so it has a word at the widths that have room for them
pub mod WordLengths
-- so every whole number up to the limit has a word, and no odd one past it has
pub mod LimitWords
-- and strict writing refuses none up to the limit
pub mod LimitWriting
-- from width 5 up every word that is at least the limit in size is an even whole number
pub mod LimitEvens
-- so from 2^55 on every word of any width is one
pub mod LimitLarge
-- so a whole number past the limit is rounded to an even one
pub mod LimitRounded
-- ---- the shortest word
-- trailing zeros are the greatest power of two that divides a number
pub mod OddParts
-- the corrected length of document 004, Proposition 4, is the least width at which a number has a word
pub mod Lengths
-- so that width is the answer, and past 64 there is none
pub mod ShortestWidths
