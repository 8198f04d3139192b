-- The lines of a text (`Lines`), and parts that are read one after another (`Reading`).
pub mod Lines
pub mod Reading
