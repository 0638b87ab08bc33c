-- What the contracts of `through` cite, and those of the calls that are lent the record: what a call through a record answers and leaves; and the bounds that the code asks.
pub mod Answers
pub mod Bounds
