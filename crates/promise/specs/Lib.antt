pub mod Conversion
pub mod Promise
