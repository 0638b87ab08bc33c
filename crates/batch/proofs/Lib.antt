-- The laws of a batch: its columns of counts and its entries one after the other, an append to a file that validates, the appends in turn, and the whole batch.
pub mod Together
pub mod Entries
pub mod Appending
pub mod InTurn
pub mod Whole
