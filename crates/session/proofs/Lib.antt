pub mod Answering
pub mod Clearing
pub mod Following
pub mod Holding
pub mod Ordered
pub mod Reading
