pub mod Blanks
pub mod Rules
pub mod Names
pub mod Fits
pub mod Descriptions
pub mod Laws
pub mod Outlines
