pub mod Lengths
pub mod TableBytes
pub mod Accepting
pub mod Stretches
pub mod Made
pub mod Stores
