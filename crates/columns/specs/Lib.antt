pub mod Levels
pub mod Listing
pub mod Walk
