pub mod Callers
pub mod LayingOut
pub mod Steps
pub mod Watching
pub mod Runs
pub mod Promises
