pub mod Heads
pub mod Runs
pub mod Unique
pub mod Total
