pub mod Steps
pub mod Bound
