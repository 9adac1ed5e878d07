pub mod Among
pub mod Checks
pub mod Rows
pub mod Answers
pub mod Some
