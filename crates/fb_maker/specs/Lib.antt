pub mod Words
pub mod Trace
pub mod Making
pub mod Standing
pub mod Script
