pub mod Joined
pub mod Rejoined
