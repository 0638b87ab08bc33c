-- What the contracts of `pieces` cite: the entry descriptor's fields, what an entry holds, how its sections stand in it, the tables; and the bounds that the code asks.
pub mod EntryDescriptor
pub mod Contents
pub mod Spread
pub mod Tables
pub mod Bounds
