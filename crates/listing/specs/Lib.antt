-- What the contracts of `listing` cite, and the lines that theorems speak of.
pub mod Text
pub mod Buffer
pub mod Listing
pub mod Lines
