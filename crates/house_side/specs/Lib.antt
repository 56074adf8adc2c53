pub mod Tables
pub mod Houses
pub mod Outs
pub mod Minds
pub mod Lapses
pub mod Comings
