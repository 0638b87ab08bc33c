pub mod Places
pub mod AreasAgree
pub mod Kept
pub mod Placed
