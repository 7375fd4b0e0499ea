pub mod Verdict
pub mod Printed
pub mod Comparing
pub mod Judged
pub mod Printing
