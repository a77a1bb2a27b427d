pub mod Sequence
pub mod Drives
