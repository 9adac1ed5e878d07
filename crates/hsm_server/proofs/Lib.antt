pub mod Sent
pub mod Halves
pub mod Joining
pub mod Keeping
pub mod Laning
