pub mod OffDisk
pub mod JobFiles
pub mod Progress
pub mod Sorted
pub mod Gathered
pub mod Lines
pub mod Limits
