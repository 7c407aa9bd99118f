pub mod Fronts
pub mod Lists
