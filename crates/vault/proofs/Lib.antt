pub mod Checks
pub mod Requests
pub mod Words
pub mod Chips
