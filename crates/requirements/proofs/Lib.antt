pub mod Readers
pub mod Wholes
pub mod Answers
pub mod Rules
pub mod Windows
pub mod Says
pub mod Shared
pub mod Examples
