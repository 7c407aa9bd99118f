pub mod Subtrees
pub mod Parts
pub mod Checked
pub mod Faults
pub mod Matches
pub mod Found
pub mod Steps
pub mod Matching
