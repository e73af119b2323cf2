pub mod Reading
pub mod Does
pub mod Steps
pub mod Monitors
