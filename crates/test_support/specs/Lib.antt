pub mod Answers
pub mod Stage
pub mod Facts
