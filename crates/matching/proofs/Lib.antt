pub mod Matched
pub mod Subtrees
pub mod LeftParts
pub mod Steps
