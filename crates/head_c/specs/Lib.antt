pub mod Words
pub mod Waits
pub mod Meanwhile
