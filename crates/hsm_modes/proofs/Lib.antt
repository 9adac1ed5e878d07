pub mod ModeLaws
pub mod InPlace
