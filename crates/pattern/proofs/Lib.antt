pub mod ItemSteps
pub mod Same
pub mod Shapes
pub mod ItemValues
pub mod Comparisons
pub mod Plain
