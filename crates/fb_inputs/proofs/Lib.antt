pub mod Account
pub mod DeviceInputs
pub mod Ends
pub mod Later
pub mod Rebuilding
pub mod Values
