pub mod Fold
pub mod Fill
pub mod Front
pub mod Each
