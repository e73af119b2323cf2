pub mod Queue
pub mod Rule
pub mod Steps
pub mod Asked
pub mod Tries
