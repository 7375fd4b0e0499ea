pub mod Keys
pub mod Tables
pub mod Names
pub mod Rules
pub mod ParamsValue
pub mod Reading
pub mod SmallFiles
