pub mod Lists
pub mod Keeping
pub mod LinesRead
pub mod ByDevice
pub mod DevicesRead
