-- The answers to a whole text.
pub mod Answers
