-- What the readers write is what the margin and the verdict take up (`Handed`).
pub mod Handed
