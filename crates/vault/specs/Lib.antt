pub mod Checks
pub mod Serials
pub mod Meaning
pub mod Kinds
pub mod Views
