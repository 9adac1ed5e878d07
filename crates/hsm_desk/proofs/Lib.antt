pub mod Totals
pub mod Histories
pub mod Kins
pub mod Turns
pub mod Moves
pub mod Bookings
pub mod Sent
pub mod OwnKept
