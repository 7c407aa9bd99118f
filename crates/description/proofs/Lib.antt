pub mod Names
pub mod Rows
pub mod Lying
pub mod Fits
pub mod Keeping
pub mod Blanks
