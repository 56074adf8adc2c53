pub mod Bytes
pub mod Sheets
pub mod Layout
pub mod Machine
pub mod Desks
pub mod Promise
