-- What the contracts of `fields` cite: what is written into the first record.
pub mod FieldWrites
