pub mod LookUp
pub mod Sweeps
pub mod Cutting
pub mod Cylinders
pub mod Worked
pub mod Runs
