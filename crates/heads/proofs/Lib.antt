-- That a head is read exactly where it is written (`Exact`), and that its predicates are in number order (`Order`).
pub mod Exact
pub mod Order
