-- The laws of `pieces` that later layers cite.
pub mod Pieces
pub mod Spreads
pub mod SectionTables
