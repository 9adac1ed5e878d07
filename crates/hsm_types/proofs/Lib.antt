pub mod SameScheme
pub mod SameType
pub mod Codes
pub mod PinLemmas
