pub mod Lawful
pub mod House
pub mod Desk
pub mod Code
pub mod Sparing
