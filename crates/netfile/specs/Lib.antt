pub mod Fields
pub mod Records
pub mod Reasons
pub mod Judging
pub mod Readings
pub mod Reading
