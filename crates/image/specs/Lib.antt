-- What the contracts of `image` cite, and the list of writes that later layers speak of.
pub mod Image
pub mod Writes
