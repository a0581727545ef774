pub mod Sets
pub mod Flagging
pub mod Choosing
