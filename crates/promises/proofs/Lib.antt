-- The promises, proved from what the other crates make public, in reading order.

-- ---- demand 1
-- how an answer follows the lines of the table: the tests of a contract, taken apart in their order
pub mod Lines
-- the refusals of the calls on words and numbers
pub mod WordRefusals
-- of the laws of moving, as functions
pub mod MovingRefusals
-- the refusals of a column and of a block
pub mod SliceRefusals
-- and of a block that is to be written
pub mod WrittenRefusals
-- so every call's refusals follow the table
pub mod Refusals
-- ---- every contract allows one outcome
-- two outcomes that a public contract allows are equal, for each call
pub mod OneOutcome
-- ---- demands 2 and 3
-- reading, order and negation, and what belongs to a width
pub mod Demands
-- what paper 01 says of every word
pub mod Words
-- writing and moves
pub mod Writing
-- how fine a reading is
pub mod Fineness
-- whatever is written through the hub
pub mod Hub
-- words that are tested by computation
pub mod Tests
-- at width 16 the words from 0x5A00 to 0x5B00 are the even whole numbers from 512 to 1,024, by one computed test
pub mod Evens
-- at widths 2 to 4 no word has a value between 1 and 8, so 3 is rounded to 1, and a size above 1 is even
pub mod Narrow
-- whole numbers and binary64
pub mod Numbers
-- whole numbers by nearest
pub mod Wholes
-- the shortest word for a count
pub mod Shortest
-- the nearest binary64
pub mod Nearest
-- every place of a column and of a block, and lent memory after a refusal
pub mod Slices
-- a written block reads back, and a block that is read, of width 16, 32 or 64, is what writing makes of its content
pub mod Sheets
-- no block of width 8 is written any more, and old ones are still read
pub mod OldBlocks
-- the lines of an old block end in ` old`, and no other line does
pub mod OldLines
-- of the sizes between two neighbouring multiples the same is said
pub mod Jammed
-- which way it went: each law once, of whatever is written
pub mod Sayings
-- a word that is nearer than those beside it is the nearest, and its size tells which way it went
pub mod Settled
-- laws of moving
pub mod Moving
-- the P figures, by one test that is computed over the whole table
pub mod Figures
-- ---- the letter
-- the three demands, each as one theorem
pub mod Letter
-- ---- the face for C and Rust
-- what the face hands over is one thing, for each of its functions
pub mod FaceOutcomes
-- a struct follows the lines that the answer follows
pub mod FaceLaws
-- what the exported calls on widths and words hand over
pub mod FaceWords
-- those that write, move and take numbers
pub mod FaceNumbers
-- those on lent slices, and what they leave there
pub mod FaceSlices
-- the one that writes a block, and what it leaves in the buffer
pub mod FaceSheets
-- so refusal numbers, lent memory and positions are as promised
pub mod Face
-- two outcomes that the contract of an exported call allows are equal
pub mod CalledOutcomes
