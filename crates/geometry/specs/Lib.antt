-- What the contracts of `geometry` cite.
pub mod Units
pub mod Growth
pub mod Totals
pub mod Walk
pub mod Stepwise
pub mod Area
pub mod Computing
