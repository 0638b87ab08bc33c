-- The relations that contracts are made of.
pub mod Outcome
pub mod Refusal
