-- The form of rows (`Form`), their reading from the front (`Reading`), and texts that differ in filled rows alone (`Same`).
pub mod Form
pub mod Reading
pub mod Same
