pub mod Tests
pub mod Places
pub mod Digits
pub mod Marks
pub mod Answers
pub mod Numerals
pub mod Fields
