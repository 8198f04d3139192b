-- The form of a sheet's head (`Form`), its reading line by line (`Reading`), and the `p=` lines among others (`Order`).
pub mod Form
pub mod Reading
pub mod Order
