-- Laws of calls through a record: what an append and appends in turn leave of a file that validates; what a call through a record comes to by its refusals; and what
-- the functions give that work from the record.
pub mod Kept
pub mod Outcomes
pub mod Given
