-- The test of the scales.
pub mod Scales
