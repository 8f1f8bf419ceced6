pub mod Short
pub mod Terms
