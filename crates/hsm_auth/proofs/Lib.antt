pub mod SameActivity
mod Filters
mod Histories
pub mod Legal
pub mod OwnEntries
mod OwnTotals
mod LiveGrants
mod Steps
mod Answered
mod Texts
mod Named
