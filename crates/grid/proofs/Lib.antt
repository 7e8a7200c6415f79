pub mod Chunks
pub mod Counting
pub mod Locality
pub mod Rectangles
mod Squares
pub mod Steps
