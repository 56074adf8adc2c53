pub mod View
pub mod Packing
pub mod Tables
