pub mod Faults
pub mod Lanes
pub mod Rows
pub mod Scripts
