-- The laws of `entry` that later layers cite.
pub mod Entering
pub mod OpenedEntry
