pub mod Refusals
pub mod Elements
pub mod Decimals
pub mod Rows
pub mod Words
pub mod Posts
pub mod Reach
