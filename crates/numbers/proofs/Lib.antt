-- Laws that let `omega`, which reads natural numbers alone, decide facts on whole numbers (`Parts`), and what a signed local holds (`Bits`).
pub mod Parts
pub mod Bits
