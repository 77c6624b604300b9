-- The laws of the entry book, and worked examples.
pub mod EntryLaws
pub mod EntryExamples
