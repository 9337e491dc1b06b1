-- The laws of a block's text, one idea a file, in reading order.
-- text at a place of a buffer: one after another
pub mod Placed
-- the digits of a number
pub mod Digits
-- what stands for a refusal
pub mod Refusals
-- what the width adds to a line
pub mod Old
-- the lines of a block's words, one after another
pub mod Listed
-- a block that was read, or refused, is listed as the definition says
pub mod ReadOut
-- two outcomes that the contract of `list_block` allows are equal
pub mod OneOutcome
