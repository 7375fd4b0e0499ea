pub mod Words
pub mod SameText
pub mod Arrayed
pub mod Making
pub mod Alike
pub mod Completeness
pub mod RunGaps
pub mod Untouching
pub mod Together
pub mod Readable
pub mod Spills
pub mod OneRun
pub mod OneSection
pub mod Printed
mod Checking
mod RightReports
pub mod Ends
pub mod Noted
pub mod LineEnds
