pub mod Trees
pub mod Refusals
pub mod Statements
pub mod Stacks
pub mod Faults
pub mod Checked
pub mod Evaluations
pub mod Values
