pub mod Answers
pub mod Kinds
pub mod Plans
pub mod Refusals
pub mod Texts
