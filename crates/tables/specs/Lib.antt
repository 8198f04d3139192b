-- In the order of document 01: the kinds, the tree of a node, and the table's rules; then the table with its windows closed.
pub mod Kind
pub mod Tree
pub mod Rules
pub mod Closed
