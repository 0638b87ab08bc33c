-- What the contracts of `layout` cite: the words of the first record, the code of a file, and the words of an entry descriptor.
pub mod FirstRecordWords
pub mod FileCode
pub mod EntryWords
