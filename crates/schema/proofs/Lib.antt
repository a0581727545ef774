pub mod Powers
pub mod Steps
pub mod ByDepths
pub mod Told
