pub mod Leaving
pub mod AssignAnswers
pub mod Rooms
