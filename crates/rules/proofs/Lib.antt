mod Roading
pub mod Settling
mod Testing
