-- What the contracts of `placing` cite: where an append puts things, its rules 23 and 24, and the place of an entry.
pub mod Placing
pub mod Rules
pub mod Placement
pub mod Bounds
