pub mod Fitting
mod Goings
pub mod Histories
pub mod Rowing
pub mod Stretches
pub mod Unions
