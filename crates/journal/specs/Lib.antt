pub mod Answers
pub mod Logs
pub mod Handing
pub mod Promise
pub mod Histories
pub mod Performs
pub mod Runs
pub mod Replays
