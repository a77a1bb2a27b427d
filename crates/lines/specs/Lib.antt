pub mod Line
pub mod Spelling
pub mod Says
