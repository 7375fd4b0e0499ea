pub mod Called
pub mod Left
pub mod Pieces
