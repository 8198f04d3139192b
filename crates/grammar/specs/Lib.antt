-- In the order of document 01: the operators, trees, the grammar; then how its parts are read.
pub mod Operators
pub mod Tree
pub mod Grammar
pub mod Reading
