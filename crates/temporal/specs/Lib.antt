pub mod Reading
pub mod Edges
pub mod Slid
pub mod Asks
