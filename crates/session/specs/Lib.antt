pub mod Nets
pub mod Drafts
pub mod Settled
pub mod Solving
pub mod Traces
