pub mod Edges
pub mod View
