pub mod AllRows
pub mod Edges
pub mod InPlace
pub mod Ranges
pub mod Searches
