pub mod Places
pub mod Roads
pub mod Settlements
