pub mod Stacks
pub mod Conditions
pub mod Forests
pub mod Grants
pub mod Values
pub mod Programs
