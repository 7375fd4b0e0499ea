pub mod Script
pub mod Copy
pub mod Replacement
pub mod Changes
pub mod Survivor
