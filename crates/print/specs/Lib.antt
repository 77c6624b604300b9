pub mod PrintLines
