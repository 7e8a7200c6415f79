pub mod Caches
pub mod Tables
