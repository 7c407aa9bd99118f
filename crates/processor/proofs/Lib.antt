pub mod Tables
pub mod Spare
pub mod Judging
pub mod Steps
pub mod Keeping
pub mod Letters
pub mod Growth
pub mod Depths
