pub mod Constants
pub mod GroundLaws
pub mod Noises
pub mod Splitmix
