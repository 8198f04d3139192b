-- How often a byte stands in a text (`Counts`), the lines of a text (`Lines`), and the lines between two places of it (`Places`).
pub mod Counts
pub mod Lines
pub mod Places
