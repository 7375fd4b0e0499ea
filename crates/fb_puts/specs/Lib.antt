pub mod Ranges
pub mod Asked
pub mod Line
pub mod Reading
pub mod Verdict
pub mod Taken
pub mod Rules
pub mod Reader
