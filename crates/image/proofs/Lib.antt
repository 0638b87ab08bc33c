-- The laws of `image` that later layers cite.
pub mod Splice
pub mod Part
pub mod Zeros
pub mod Writes
