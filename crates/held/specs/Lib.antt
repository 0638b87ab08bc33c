-- What the contracts of `held` cite: the record of an open file, and the rule that a record is the one that its file has.
pub mod Record
pub mod Rules
