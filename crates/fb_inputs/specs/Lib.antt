pub mod Account
pub mod Causes
pub mod Devices
pub mod Ends
pub mod Limits
pub mod Puts
pub mod Read
pub mod Reading
