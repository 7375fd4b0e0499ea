pub mod Sections
pub mod Written
pub mod Ends
pub mod Writing
