pub mod First
pub mod Place
pub mod Rising
