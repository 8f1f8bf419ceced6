pub mod Insides
pub mod Sides
pub mod Three
