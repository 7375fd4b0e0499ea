pub mod Names
pub mod Sessions
pub mod Blocks
pub mod Promoted
pub mod Allowed
