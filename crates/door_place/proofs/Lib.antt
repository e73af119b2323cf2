mod Acts
mod Lists
pub mod Sent
