pub mod Ranges
pub mod Names
pub mod Letters
pub mod Items
pub mod Patterns
pub mod Shapes
pub mod ItemValues
