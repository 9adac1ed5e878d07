pub mod Lengths
pub mod SettingsLaws
pub mod Steps
