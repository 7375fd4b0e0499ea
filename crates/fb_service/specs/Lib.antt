pub mod Passing
pub mod Service
pub mod Extents
pub mod Approaching
