pub mod Called
pub mod Names
pub mod Streams
