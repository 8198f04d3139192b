-- Bounds that keep signed sums in 64 bits (`Fits`).
pub mod Fits
