-- Each test of a recording says what its sentence says (`Recording`); number 0 says all of them (`Refusals`).
pub mod Recording
pub mod Refusals
