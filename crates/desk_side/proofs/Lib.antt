pub mod Agree
pub mod Asked
pub mod Said
pub mod Heard
pub mod Answer
pub mod Ticked
pub mod Called
pub mod Turned
