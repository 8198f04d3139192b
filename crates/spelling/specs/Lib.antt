-- The text of a tree (`Text`) and its pieces (`Pieces`), how deep its enclosings go (`Enclosings`), and how long it can be (`Room`); worked trees (`Examples`).
pub mod Text
pub mod Pieces
pub mod Enclosings
pub mod Room
pub mod Examples
