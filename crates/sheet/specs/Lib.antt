pub mod Format
pub mod Saving
pub mod Loading
pub mod Layouts
pub mod Promises
