-- What the contracts of `entry` cite, in the order of 01: what is entered, opening an entry of validated numbers, and what the calls answer.
pub mod Entered
pub mod Opening
pub mod Answers
