pub mod Table
pub mod Designs
pub mod Registers
pub mod FirstWords
pub mod Soundness
