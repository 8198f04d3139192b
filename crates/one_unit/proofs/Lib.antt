-- Margins of before with their TOP raised (`Raised`), refusals of before (`Refusals`), and what the functions answer beside what they answered (`Promises`).
pub mod Raised
pub mod Refusals
pub mod Promises
