pub mod Hauls
pub mod HaulLaws
