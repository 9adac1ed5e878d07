pub mod Tdes
pub mod Parts
pub mod Schedules
pub mod Steps
