-- What the contracts of `batch` cite: a batch and its entries, its rules, its answers, and how its code goes through it.
pub mod Batch
pub mod Rules
pub mod Answers
pub mod Taking
