pub mod Log
pub mod Views
pub mod Rule
pub mod Steps
pub mod Shelves
