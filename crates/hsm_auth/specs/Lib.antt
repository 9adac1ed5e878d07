pub mod Activities
pub mod Ledgers
pub mod History
pub mod Grants
pub mod Own
pub mod Steps
