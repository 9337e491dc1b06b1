-- The laws of a run's text, one idea a file, in reading order.
-- a run, block by block
pub mod Chunks
-- the texts of a run's blocks, one after another
pub mod Gathered
-- their counts, one after another
pub mod Counted
-- a text that is put into the rest of a buffer
pub mod Rest
-- what the answer of a read tells
pub mod Told
-- the run that a read makes whole
pub mod Turns
-- how the listing ends
pub mod Endings
-- a run at its edges: no bytes, a short last piece, pieces one after another
pub mod Edges
-- a run has one listing, and one outcome of counting
pub mod OneOutcome
