pub mod Numbers
pub mod Settings
pub mod Messages
pub mod Summary
