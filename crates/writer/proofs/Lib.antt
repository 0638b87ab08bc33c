pub mod Created
pub mod HandedIn
pub mod ByRefusal
pub mod Answering
