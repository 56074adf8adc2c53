pub mod Letters
pub mod Inverse
pub mod CallLaws
pub mod LineLaws
