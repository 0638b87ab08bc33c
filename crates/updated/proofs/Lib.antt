-- The theorems: the bytes that an update leaves, and the file and its entries after it.
pub mod Rewritten
pub mod EntryAfter
