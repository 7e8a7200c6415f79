mod Drawings
pub mod Plans
pub mod Rows
mod Texts
