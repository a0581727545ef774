pub mod Cuts
pub mod Spelling
