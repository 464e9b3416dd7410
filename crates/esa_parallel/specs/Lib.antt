pub mod Crews
pub mod Fronts
