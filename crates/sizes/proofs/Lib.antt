-- The laws of sizes in the normal form, one idea a file, in reading order.

-- a word at the top of 64 bits: its sign and its size in the normal form
pub mod Tops
-- the size in the normal form is a reading with 63 fraction bits: there is one, and its exponent is from -255 to 254
pub mod Normal
-- two outcomes that a contract allows are equal
pub mod OneOutcome
