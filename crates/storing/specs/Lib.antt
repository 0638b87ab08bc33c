-- What the contracts of `storing` cite: what is handed to an append, and what an accepted one writes.
pub mod Handed
pub mod Writing
pub mod AsMade
pub mod Bounds
