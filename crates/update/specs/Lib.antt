-- What the contracts of `update` cite: the rules of new content, what an update answers and leaves, and what its code may assume of a place.
pub mod Rules
pub mod Answers
pub mod Bounds
