pub mod Fields
pub mod Refusals
pub mod Requests
pub mod Decimals
