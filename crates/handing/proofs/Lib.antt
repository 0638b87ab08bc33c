-- The laws of `handing` that later layers cite.
pub mod Handing
