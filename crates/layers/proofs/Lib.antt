pub mod Surveys
mod Walks
