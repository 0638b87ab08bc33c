-- What the contracts of `words` cite, and the tables of places that later layers hand out.
pub mod Word
pub mod Range
pub mod Code
pub mod Table
