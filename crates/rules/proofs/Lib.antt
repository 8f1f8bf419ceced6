pub mod Norms
pub mod Within
