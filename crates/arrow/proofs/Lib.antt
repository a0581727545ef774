pub mod Meanings
pub mod Depths
pub mod Checked
pub mod Ways
pub mod Leaves
