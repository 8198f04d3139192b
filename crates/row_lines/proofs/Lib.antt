-- What is read is what is written (`Written`, `Lines`, `Exact`), and the loops of the code (`Steps`, `Counting`).
pub mod Written
pub mod Lines
pub mod Exact
pub mod Steps
pub mod Counting
