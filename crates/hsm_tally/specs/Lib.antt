pub mod Replies
pub mod Tallies
