pub mod Bytes
pub mod Mark
pub mod Number
pub mod Numeral
