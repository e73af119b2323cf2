pub mod Services
pub mod JobLists
pub mod JobTexts
pub mod Readings
pub mod Reports
pub mod Gatherings
pub mod Kinds
pub mod Faults
