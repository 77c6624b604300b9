-- The lemmas of what the office prints.
mod Padding
