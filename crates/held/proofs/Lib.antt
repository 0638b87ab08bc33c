-- Laws of the record of an open file: tables of records with the same numbers, and what it is for a record to be true of a file.
pub mod Tables
pub mod Held
