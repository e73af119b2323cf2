pub mod RunStates
pub mod Turns
