pub mod Kinds
pub mod Views
pub mod Lanes
pub mod Noise
