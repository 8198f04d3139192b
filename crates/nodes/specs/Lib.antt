pub mod Values
pub mod Asks
