-- The lemmas of the claim book.
mod Once
mod Keeping
mod Making
