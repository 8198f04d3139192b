-- What is handed back for a requirement text, and worked texts.
pub mod Requirement
pub mod Examples
