-- What a watch holds of the rows that it has taken (`Watches`), and its answers while rows are offered to it (`Run`).
pub mod Watches
pub mod Run
