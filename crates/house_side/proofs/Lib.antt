pub mod Model
pub mod Ticks
pub mod Fronts
pub mod Heard
pub mod Bytewise
