-- What the contracts of `writer` cite, in the order of 01: creation; the rules of an append; and the answers.
pub mod Creation
pub mod Rules
pub mod Answers
