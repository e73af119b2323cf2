pub mod Lists
pub mod Seats
pub mod Steps
