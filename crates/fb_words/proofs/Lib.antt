pub mod Meanings
pub mod WordsRead
pub mod Bounds
