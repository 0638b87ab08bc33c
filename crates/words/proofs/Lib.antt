-- The laws of `words` that later layers cite.
pub mod Number
pub mod StdBytes
pub mod Signed
pub mod Ranges
pub mod Access
pub mod Codes
pub mod Table
pub mod Runs
pub mod Zeros
