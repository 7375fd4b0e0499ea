pub mod Entry
pub mod Line
pub mod Reading
pub mod Verdict
pub mod Servable
pub mod Devices
pub mod Progress
