-- The laws of the hub, one idea a file, in reading order.

-- with the other sign it is the word of the same place; a word with exactly the value is the nearest
pub mod Signs
-- ---- one size in several units
-- every size is offered as a fraction, and both parts of a fraction times one number are the same size
pub mod Scales
-- the normal form: the top bit moved to 2^63, and the exponent that makes up for it
pub mod Normal
-- the normal form of 128 bits: the first 64, and what lies below them
pub mod Long
-- a word that has a size has it in this form
pub mod Sized
-- no word has a size that lies strictly between two multiples of a unit, past 64 bits
pub mod Finer
-- ---- what the two rules give
-- the nearest word with its sign, and what each rule makes of it
pub mod Rules
-- there is one rounded word and at most one strict word, a word's own value gives it back, and the ends
pub mod Rounding
-- what is cut off below 128 bits may be jammed into the lowest of them; 66 bits would do, 65 would not
pub mod Jamming
-- rounding keeps the order of values
pub mod Order
-- what is said hangs on the value alone
pub mod Sayings
-- two outcomes that a contract allows are equal
pub mod OneOutcome
