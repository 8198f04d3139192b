-- The form of a line with one number (`Form`), and its reading at a place (`Reading`).
pub mod Form
pub mod Reading
