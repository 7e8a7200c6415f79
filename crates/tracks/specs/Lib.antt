pub mod Promises
pub mod Room
pub mod Runs
