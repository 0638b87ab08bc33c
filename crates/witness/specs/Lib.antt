-- What the contracts of `witness` cite.
pub mod Twice
pub mod Revised
pub mod Begun
