-- What the contracts of `classic` cite beside the definitions of the crates below; and the bounds that the code asks.
pub mod Answers
pub mod Bounds
