pub mod Digits
pub mod Longest
pub mod Fronts
pub mod Denoted
pub mod Standing
pub mod Tiled
