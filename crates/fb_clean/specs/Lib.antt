pub mod Segments
pub mod Numbers
pub mod Ranks
pub mod Greatest
