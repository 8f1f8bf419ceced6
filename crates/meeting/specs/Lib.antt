pub mod Heights
pub mod Meeting
pub mod Rows
