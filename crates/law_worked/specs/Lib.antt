pub mod Modules
pub mod Messages
pub mod Keys
