pub mod Machines
pub mod States
pub mod Payloads
pub mod Acts
pub mod Laws
pub mod Faults
pub mod Instructions
