pub mod Decimals
pub mod Hex
pub mod Names
pub mod Readings
pub mod Writings
pub mod Words
pub mod Laws
