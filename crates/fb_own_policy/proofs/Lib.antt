pub mod Unscripted
