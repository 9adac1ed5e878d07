pub mod Nibbles
pub mod Characters
