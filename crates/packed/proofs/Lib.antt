pub mod Search
pub mod Order
pub mod Place
