pub mod Files
pub mod Settings
pub mod Words
pub mod Runs
pub mod Parts
pub mod Lanes
pub mod Headline
pub mod Serving
