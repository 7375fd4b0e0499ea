mod Times
pub mod LookUp
pub mod Rises
pub mod Far
