pub mod Words
pub mod Reading
pub mod Grammar
pub mod Faults
pub mod Lexemes
pub mod Sketches
pub mod States
pub mod Soundness
