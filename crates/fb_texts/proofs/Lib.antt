pub mod Counted
pub mod Each
pub mod LineEnds
pub mod Pieces
pub mod Sections
pub mod Texts
