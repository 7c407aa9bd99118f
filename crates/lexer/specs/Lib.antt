pub mod Bytes
pub mod Tokens
pub mod Meanings
pub mod Tilings
