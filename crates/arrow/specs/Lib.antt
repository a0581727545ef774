pub mod Kinds
pub mod Same
pub mod HintTrees
pub mod Annotations
pub mod Table
pub mod Hints
pub mod Convert
pub mod Laws
