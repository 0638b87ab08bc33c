-- The theorems: a first record alike, an entry's fields alike, an entry described alike, an entry alike in all its words.
pub mod FirstAlike
pub mod EntryFields
pub mod Described
pub mod Agreeing
