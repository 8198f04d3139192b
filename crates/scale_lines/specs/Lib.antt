-- The form of scale lines (`Form`), and their reading from a place on (`Reading`).
pub mod Form
pub mod Reading
