-- The lemmas of the entry book.
pub mod Duties
pub mod Entries
