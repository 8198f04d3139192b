-- The chain of the parts' readers (`Chain`), that a sheet is read exactly where it is written (`Exact`), what its places hold (`Behind`), the text with one requirement alone
-- (`Only`), that predicates are in number order (`Order`), and the examples (`Examples`).
pub mod Behind
pub mod Chain
pub mod Exact
pub mod Examples
pub mod Only
pub mod Order
