pub mod Tables
pub mod Labels
pub mod Steps
pub mod Nexts
pub mod Standing
