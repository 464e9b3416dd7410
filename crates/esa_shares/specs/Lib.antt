pub mod Field
pub mod Polynomial
pub mod Newton
pub mod Share
pub mod Inside
