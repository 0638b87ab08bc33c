-- The laws of `classic`, and worked examples.
pub mod Filled
pub mod Narrow
pub mod Entries
pub mod Examples
