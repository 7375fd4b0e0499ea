pub mod Words
pub mod Options
pub mod Sharing
pub mod TakenRanges
pub mod Asking
pub mod Appending
pub mod LinesRead
pub mod Shuffled
