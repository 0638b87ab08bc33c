-- What the contracts of `order` cite.
pub mod Standing
pub mod Order
