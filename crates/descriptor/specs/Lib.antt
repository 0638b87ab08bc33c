-- What the contracts of `descriptor` cite, in the order of 01: tables of rules in general, the first record's fields, the index areas, the rules, the walk over the extensions, the answers; and the bounds that the code asks.
pub mod Refusal
pub mod FirstRecord
pub mod Areas
pub mod Rules
pub mod Walking
pub mod Answers
pub mod Bounds
