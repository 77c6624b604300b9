-- The lemmas of the entry book's laws.
mod Steps
mod Keeping
