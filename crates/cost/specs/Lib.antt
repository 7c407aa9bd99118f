pub mod Kinds
pub mod Amounts
pub mod Laws
pub mod Least
pub mod Halves
