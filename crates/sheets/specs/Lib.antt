-- The form of a sheet (`Form`), its reading part by part (`Sheets`), the text with one requirement alone (`Only`), and examples (`Examples`).
pub mod Form
pub mod Sheets
pub mod Only
pub mod Examples
