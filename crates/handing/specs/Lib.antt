-- What the contracts of `handing` cite: the parts of an entry that are handed out, and what the code asks of one.
pub mod Parts
pub mod Bounds
