-- The table of a tree (`Nodes`), the tree of a table (`Unshared`), what a tree says (`Says`), the order of its nodes (`Order`), and a reading while its nodes are kept in cells (`Storing`).
pub mod Nodes
pub mod Unshared
pub mod Says
pub mod Order
pub mod Storing
