-- The test of the scales says what its sentence says (`Scales`).
pub mod Scales
