-- The laws of `outcome`.
pub mod Determined
pub mod Either
pub mod Refusals
