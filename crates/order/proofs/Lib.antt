-- The laws of order and negation are those of crate word, Signed and Values; here stands what the numbers are for an order.

-- the paper's -1, 0 and 1
pub mod Numbers
