pub mod Ranking
pub mod Reading
pub mod Total
pub mod Orders
