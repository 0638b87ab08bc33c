-- The laws of `order`: the standing of an entry, rule 25 by it, and the check over the entries.
pub mod Standings
pub mod Borders
pub mod Checks
