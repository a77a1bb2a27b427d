pub mod Prefixes
pub mod Making
pub mod Watching
pub mod Kept
pub mod Capacity
pub mod Registers
