pub mod Spelling
pub mod Streams
pub mod AfterLines
pub mod LongLines
