pub mod Table
pub mod Designs
pub mod Stacks
pub mod Soundness
