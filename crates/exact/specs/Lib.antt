pub mod Capped
pub mod Fractions
pub mod Given
pub mod Lists
pub mod Rounding
