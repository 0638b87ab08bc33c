-- The laws of `listing`, and its worked examples.
pub mod Areas
pub mod Decimal
pub mod Laid
pub mod Lines
pub mod Listings
pub mod Room
pub mod Examples
