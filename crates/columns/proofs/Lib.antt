pub mod Paths
pub mod Writes
pub mod Tables
