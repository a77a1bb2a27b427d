pub mod Kept
pub mod Faithful
