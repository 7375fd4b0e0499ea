pub mod Texts
pub mod OnSmallDisks
pub mod Placing
pub mod FullRuns
pub mod WrongRuns
pub mod WrongPlans
pub mod KnownRuns
pub mod AcceptedInputs
mod MadeRuns
