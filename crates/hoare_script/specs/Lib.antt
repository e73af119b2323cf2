pub mod Lines
pub mod Answers
pub mod Scripts
pub mod Runs
