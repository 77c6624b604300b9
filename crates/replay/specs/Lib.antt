pub mod Print
pub mod Parts
