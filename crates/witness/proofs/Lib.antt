-- The laws of `witness`.
mod Promised
pub mod Determined
