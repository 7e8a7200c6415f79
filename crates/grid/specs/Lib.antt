pub mod Counts
pub mod Meanings
pub mod Piles
pub mod Places
pub mod Refusals
pub mod Windows
