-- The definitions of the entry book.
pub mod Limits
pub mod EntryBook
pub mod EntryState
