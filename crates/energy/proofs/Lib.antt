pub mod Places
pub mod Totals
pub mod Works
