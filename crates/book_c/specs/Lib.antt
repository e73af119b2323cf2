pub mod Held
pub mod Codes
pub mod Words
