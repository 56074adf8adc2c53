pub mod Desks
pub mod Peers
pub mod View
pub mod Known
pub mod Views
