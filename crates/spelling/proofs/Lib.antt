-- Parentheses, windows and kinds (`Pairs`, `Windows`, `Productions`); then the theorems: the grammar derives the text (`Derived`), no text is shorter (`Least`), so each pair is needed (`Needed`), and what the limits allow (`Fits`); worked trees (`Examples`).
pub mod Pairs
pub mod Windows
pub mod Productions
pub mod Derived
pub mod Least
pub mod Needed
pub mod Fits
pub mod Examples
