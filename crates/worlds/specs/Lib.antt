pub mod Drawings
pub mod Journals
pub mod Laws
pub mod Refusals
pub mod Rows
pub mod Worlds
