pub mod Live
pub mod Ranked
pub mod Kept
pub mod Greatest
