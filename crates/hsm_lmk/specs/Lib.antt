pub mod Pairs
pub mod Sealing
pub mod Opening
pub mod Opened
pub mod Cache
pub mod Caches
