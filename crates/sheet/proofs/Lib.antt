-- The laws of blocks, one idea a file, in reading order. From SameContent on they are for the reader of the contract; no function's proof in this
-- crate uses them.

-- little-endian numbers: a longer one is made of two shorter ones, and none has the bytes of another
pub mod LittleEndian
-- packed numbers: how many there are, and which one stands where
pub mod Packing
-- the sums A and B, taken number by number
pub mod Checks
-- bytes are all zero exactly if their sum is
pub mod Unused
-- what each test of a block finds
pub mod Tests
-- the tests in the paper's order, and what is known of a block that they let through
pub mod Passing
-- what the test of the number of bytes tells of a block
pub mod Whole
-- the bytes that a block's words have: 1, 2, 4 or 8, all of them within the block
pub mod Sizes
-- COUNT is given exactly where there are more than 496, 248, 124 or 62 words
pub mod Rooms
-- the tests of a content in the paper's order, and its words, tried one by one
pub mod Contents
-- what puts into a buffer leave there, one after the other
pub mod Puts
-- a header, packed words, zeros and then A and B make the block that has this content
pub mod Making
-- two blocks that have the same content are the same bytes, all 512
pub mod SameContent
-- two outcomes that the contract allows are equal, the results too
pub mod OneOutcome
-- two totals differ as the one number does that changed
pub mod Totals
-- so after a change within one of the 126 numbers A isn't their sum
pub mod Changes
-- a change within one of the 126 numbers is a change of that number, and of no other
pub mod OneNumber
-- what stands in the results after a block was read, place by place
pub mod Results
-- a block that has a content is read as that content, and a block that is read has the content that was read
pub mod RoundTrip
-- the block that paper 01 gives as a case
pub mod Case
