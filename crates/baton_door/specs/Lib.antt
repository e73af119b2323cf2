pub mod Words
pub mod Rule
pub mod Steps
pub mod Entering
pub mod Places
pub mod StepDoors
