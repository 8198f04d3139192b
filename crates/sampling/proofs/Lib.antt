-- Each test says what its sentence says, and number 0 gives what demand 3 asks (`Sampling`).
pub mod Sampling
