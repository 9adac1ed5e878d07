pub mod KeyTypes
pub mod Table
pub mod Pins
pub mod PinFields
pub mod Schemes
