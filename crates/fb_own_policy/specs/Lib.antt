pub mod ReadsFirst
