pub mod Words
pub mod Laid
pub mod Back
pub mod Cut
pub mod Form
pub mod Changed
