pub mod Columnar
pub mod Kinds
pub mod Tables
pub mod Text
pub mod Inverses
