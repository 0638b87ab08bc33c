-- Laws of an update: its refusals in turn, and where the section that it names stands.
pub mod Contents
pub mod Places
