-- In the order of document 01: windows and requirements, their one reading, "not" pushed down, strengthening, and the operators in plain words.
pub mod Window
pub mod Formula
pub mod Reading
pub mod Negation
pub mod Strengthening
pub mod Words
