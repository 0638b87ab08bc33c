-- The laws of `layout` that later layers cite.
pub mod FileCodes
