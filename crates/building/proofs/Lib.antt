pub mod Cells
pub mod Stores
pub mod Laid
pub mod Unshared
