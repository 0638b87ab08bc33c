-- The laws of `descriptor` that later layers cite.
pub mod Refusals
pub mod Tests
pub mod Passed
pub mod Answered
pub mod AreaOrder
pub mod Walks
pub mod Fitting
pub mod Admitting
pub mod Reached
pub mod Entered
