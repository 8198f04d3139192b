pub mod Letters
pub mod Windows
pub mod Turns
pub mod Sound
pub mod Complete
pub mod Readings
