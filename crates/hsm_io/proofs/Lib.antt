pub mod DoorLemmas
pub mod FileLemmas
pub mod LinkLemmas
pub mod Passing
pub mod TextLemmas
