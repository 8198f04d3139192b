-- The distance's answer, refusals included.
pub mod Answers
