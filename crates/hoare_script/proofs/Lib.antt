pub mod Spelling
pub mod Commands
pub mod Answering
pub mod Scripts
pub mod Running
