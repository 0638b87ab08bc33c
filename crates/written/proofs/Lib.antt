-- The theorems, from the inside out: what an append leaves, which bytes change, the first record afterwards, the entry's words and pieces read back, the entry opened
-- again, and a created file.
pub mod Cases
pub mod AppendLeaves
pub mod Frame
pub mod FirstRecordAfter
pub mod ReadBack
pub mod EntryRead
pub mod EntryPieces
pub mod Reopened
pub mod Returned
pub mod CreatedBack
