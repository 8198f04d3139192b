-- What is read is what is written (`Written`, `Over`, `Exact`), the places that are kept (`Sixteen`), and the steps of the code (`Collecting`).
pub mod Written
pub mod Sixteen
pub mod Collecting
pub mod Over
pub mod Exact
