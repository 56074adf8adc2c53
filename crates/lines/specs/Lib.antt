pub mod Fields
pub mod CallLines
pub mod Room
pub mod Events
pub mod Views
pub mod EventTexts
pub mod Errors
