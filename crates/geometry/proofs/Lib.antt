-- The laws of `geometry` that later layers cite, and the theorem on gex 10 and 20.
pub mod Positions
pub mod Capacities
pub mod Parts
pub mod TotalTables
pub mod Slots
pub mod WholeFactors
