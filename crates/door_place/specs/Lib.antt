pub mod Codes
pub mod States
pub mod Deeds
pub mod Returns
pub mod Places
