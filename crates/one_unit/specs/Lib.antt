-- Document 01 as it was before there were scales (`Before`).
pub mod Before
