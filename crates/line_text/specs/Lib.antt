pub mod Words
pub mod Streams
pub mod Line
pub mod Forms
